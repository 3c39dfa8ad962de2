use Rattle.std.proofs.Common.{◌≡◌, take}
use Rattle.hl_base.proofs.place.Frames.copy.Given as goal

-- the frames so far are copied
abbrev pub invariant-loop-frame : goal.invariant-loop-frame
invariant-loop-frame l = l.frames.items ≡ take l.frame-index l.frame-items
