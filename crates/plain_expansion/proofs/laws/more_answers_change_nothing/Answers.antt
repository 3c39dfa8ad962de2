use Rattle.plain_expansion.proofs.QuestionLaws.{more_changes_nothing, comes_to_the_result}
use Rattle.plain_expansion.proofs.laws.more_answers_change_nothing.Goals as goal

pub returns : goal.returns
returns g c = record { more = more_changes_nothing _ _ _; result = comes_to_the_result _ _ _ }
