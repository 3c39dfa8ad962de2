use Rattle.cond_expr.proofs.AskingLaws.{more_changes_nothing}
use Rattle.cond_expr.proofs.laws.more_answers_change_nothing.Goals as goal

pub returns : goal.returns
returns g c = more_changes_nothing
