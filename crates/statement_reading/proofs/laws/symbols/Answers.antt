use Rattle.conditional_fields.specs.Templates.{has_subscripts}
use Rattle.statement_reading.proofs.SymbolLaws.{symbol-some, symbol-none, symbol-back, symbol-never}
use Rattle.statement_reading.proofs.laws.symbols.Goals as goal

pub returns-clause-found : goal.returns-clause-found
returns-clause-found c = λ text count tree. (symbol-back (has_subscripts text) text count tree, symbol-some (has_subscripts text) text count tree)

pub returns-clause-none : goal.returns-clause-none
returns-clause-none c = λ text. (symbol-never (has_subscripts text) text, symbol-none (has_subscripts text) text)
