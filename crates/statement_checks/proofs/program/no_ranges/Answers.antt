use Rattle.using_statements.proofs.RegisterLists.{is_none}
use Rattle.statement_checks.proofs.program.no_ranges.Goals as goal

pub returns : goal.returns
returns c = is_none c.new.result c.new.ensures.all c.new.ensures.none
