use Rattle.rpc_framing.proofs.Splitting.{Splits-unique}
use Rattle.rpc_framing.proofs.laws.one_reading.Goals as goal

pub returns : goal.returns
returns c = Splits-unique
