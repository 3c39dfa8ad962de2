use Rattle.operand_laws.proofs.Addresses.{wrong-longest}
use Rattle.operand_laws.proofs.wrong_operands.Goals as goal

pub returns : goal.returns
returns c = λ kind targets text count plain. wrong-longest kind targets text count plain
