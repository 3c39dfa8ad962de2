use Rattle.conditional_asm.proofs.AskingActs.{effect-asks}
use Rattle.conditional_asm.proofs.laws.effects_are_asked.Goals as goal

pub returns : goal.returns
returns c = λ reading frame. effect-asks frame reading
