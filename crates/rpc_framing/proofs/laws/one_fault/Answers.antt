use Rattle.rpc_framing.proofs.Splitting.{Breaks-unique}
use Rattle.rpc_framing.proofs.laws.one_fault.Goals as goal

pub returns : goal.returns
returns c = Breaks-unique
