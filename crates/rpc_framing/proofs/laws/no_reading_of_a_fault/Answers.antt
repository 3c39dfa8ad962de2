use Rattle.rpc_framing.proofs.Splitting.{Splits-Breaks}
use Rattle.rpc_framing.proofs.laws.no_reading_of_a_fault.Goals as goal

pub returns : goal.returns
returns c = Splits-Breaks
