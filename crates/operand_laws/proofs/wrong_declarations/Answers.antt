use Rattle.conditional_fields.specs.Declarations.{declaration}
use Rattle.operand_laws.specs.Fields.{IsDeclared}
use Rattle.operand_laws.proofs.Longest.{reads-wrong}
use Rattle.operand_laws.proofs.Declared.{reads-declared}
use Rattle.operand_laws.proofs.wrong_declarations.Goals as goal

pub returns : goal.returns
returns c = λ kind global text count. reads-wrong IsDeclared text count (declaration kind global text) (reads-declared kind global text)
