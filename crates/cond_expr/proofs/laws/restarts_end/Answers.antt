use Rattle.cond_expr.proofs.AskingLaws.{asks_what_is_missing, restarts_end}
use Rattle.cond_expr.proofs.laws.restarts_end.Goals as goal

pub returns : goal.returns
returns g c = record { missing = asks_what_is_missing; end = restarts_end }
