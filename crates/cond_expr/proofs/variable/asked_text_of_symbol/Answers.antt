use Rattle.std.proofs.Common.{rules}
use Rattle.cond_expr.proofs.variable.asked_text_of_symbol.Goals as goal

pub returns-in-Of-Type : goal.returns-in-Of-Type
returns-in-Of-Type g c = λ notes. let told = c.type_of.ensures notes in search rules
