use Rattle.std.proofs.Common.{◌∷◌}
use Rattle.conditional_fields.specs.declared.front.Sought.TheVariants.{Condition, Number}
use Rattle.statement_reading.specs.Branches.{choice, pair}
use Rattle.operand_laws.specs.Fields.{IsChoosing}
use Rattle.operand_laws.proofs.Choices.{reads-number, reads-pair}
use Rattle.operand_laws.proofs.Longest.{reads-wrong}
use Rattle.operand_laws.proofs.wrong_choices.Goals as goal

pub returns-clause-aif : goal.returns-clause-aif
returns-clause-aif c = λ text count. reads-wrong (IsChoosing Condition) text count (pair text) (reads-pair text)

pub returns-clause-ago : goal.returns-clause-ago
returns-clause-ago c = λ rest count. reads-wrong (IsChoosing Number) (40 ∷ rest) count (choice Number (40 ∷ rest)) (reads-number rest)
