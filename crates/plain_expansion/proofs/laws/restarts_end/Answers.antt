use Rattle.plain_expansion.proofs.QuestionLaws.{asks_only_the_missing, restarts_end}
use Rattle.plain_expansion.proofs.laws.restarts_end.Goals as goal

pub returns : goal.returns
returns g c = record { missing = asks_only_the_missing _ _ _; end = restarts_end _ _ _ }
