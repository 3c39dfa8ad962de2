use Rattle.macro_operands.proofs.AskingCalls.{call-asks}
use Rattle.macro_operands.proofs.laws.calls_are_asked.Goals as goal

pub returns : goal.returns
returns c = λ label operands frame. call-asks frame label operands
