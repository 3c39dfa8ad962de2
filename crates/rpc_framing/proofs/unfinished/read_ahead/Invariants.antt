use Rattle.std.proofs.Common.{◌≡◌, List, ℕ, ◌++◌, length}
use Rattle.rpc_framing.specs.Frames.{IsFrames}
use Rattle.rpc_framing.specs.Reading.{bodies_of}
use Rattle.rpc_framing.proofs.unfinished.read_ahead.Given as goal

-- what was read of the piece is the frames of the bodies
abbrev pub invariant-loop-size : goal.invariant-loop-size
invariant-loop-size l = (front : List ℕ) × IsFrames front (bodies_of l.bodies.items) × (l.piece ≡ front ++ l.left)

abbrev pub decreases-loop-size : goal.decreases-loop-size
decreases-loop-size l = length l.left
