use Rattle.statement_reading.specs.Bodies.{member}
use Rattle.operand_laws.specs.Fields.{IsName}
use Rattle.operand_laws.proofs.Longest.{reads-wrong}
use Rattle.operand_laws.proofs.Symbols.{reads-name}
use Rattle.operand_laws.proofs.wrong_members.Goals as goal

pub returns : goal.returns
returns c = λ text count. reads-wrong IsName text count (member text) (reads-name text)
