use Rattle.std.proofs.Common.{take}
use Rattle.rpc_framing.specs.Steps.{Goes}
use Rattle.rpc_framing.proofs.header.follow_header.Given as goal

-- the bytes so far bring the header to the stage
abbrev pub invariant-loop-size : goal.invariant-loop-size
invariant-loop-size l = Goes l.fn.start (take l.size l.piece) l.stage
