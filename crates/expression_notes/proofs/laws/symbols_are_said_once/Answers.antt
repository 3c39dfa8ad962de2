use Rattle.expression_notes.proofs.Once.{times_said-once_behind}
use Rattle.expression_notes.proofs.laws.symbols_are_said_once.Goals as goal

pub returns : goal.returns
returns c = λ given rows name few. times_said-once_behind name given rows few
