use Rattle.std.proofs.Common.{length}
use Rattle.hlasm_server.proofs.SendingLaws.{IsPutting}
use Rattle.hlasm_server.proofs.sending.put_all.Given as goal

-- the bytes before those that are left were put
abbrev pub invariant-loop-left : goal.invariant-loop-left
invariant-loop-left g l =
    let s = g.K.Sink in
    IsPutting l.bytes l.left (s.held l.initial.sink) (s.held l.sink) (s.faults l.initial.sink) (s.faults l.sink)

abbrev pub decreases-loop-left : goal.decreases-loop-left
decreases-loop-left g l = length l.left
