use Rattle.rpc_framing.proofs.EachStream.{each_stream}
use Rattle.rpc_framing.proofs.laws.each_stream_reads.Goals as goal

pub returns : goal.returns
returns c = each_stream
