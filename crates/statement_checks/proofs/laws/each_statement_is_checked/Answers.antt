use Rattle.statement_checks.proofs.Walks.{length-checked}
use Rattle.statement_checks.proofs.laws.each_statement_is_checked.Goals as goal

pub returns : goal.returns
returns c = length-checked
