use Rattle.statement_checks.proofs.Walks.{statement_at}
use Rattle.statement_checks.proofs.laws.ranges_are_those_behind.Goals as goal

pub returns : goal.returns
returns c = statement_at
