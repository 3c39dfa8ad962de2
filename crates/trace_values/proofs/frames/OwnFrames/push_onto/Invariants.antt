use Rattle.std.proofs.Common.{◌≡◌, ◌++◌, take}
use Rattle.trace_values.proofs.frames.OwnFrames.push_onto.Given as goal

-- the frames so far are added
abbrev pub invariant-loop-frame : goal.invariant-loop-frame
invariant-loop-frame l = l.frames ≡ l.initial.frames ++ take l.frame-index l.frame-items
