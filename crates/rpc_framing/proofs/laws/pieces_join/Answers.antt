use Rattle.rpc_framing.proofs.Splitting.{Splits-append}
use Rattle.rpc_framing.proofs.laws.pieces_join.Goals as goal

pub returns : goal.returns
returns c stream piece rest left bodies fresh = Splits-append stream bodies rest piece fresh left
