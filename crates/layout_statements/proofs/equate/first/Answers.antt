use Rattle.layout_statements.proofs.TextLaws.{first-none}
use Rattle.layout_statements.proofs.equate.first.Goals as goal

pub returns-in-None : goal.returns-in-None
returns-in-None c = first-none c.args.operands.now c.in-None.ensures.value
