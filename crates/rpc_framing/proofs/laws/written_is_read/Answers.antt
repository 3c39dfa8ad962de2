use Rattle.rpc_framing.proofs.FrameLaws.{IsFrame-frame}
use Rattle.rpc_framing.proofs.laws.written_is_read.Goals as goal

pub returns : goal.returns
returns c = IsFrame-frame
