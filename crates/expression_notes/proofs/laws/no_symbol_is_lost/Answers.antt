use Rattle.expression_notes.proofs.Once.{is_said-once_behind}
use Rattle.expression_notes.proofs.laws.no_symbol_is_lost.Goals as goal

pub returns : goal.returns
returns c = λ given rows name. is_said-once_behind name given rows
