use Rattle.std.proofs.Common.{◌≡◌, ◌++◌, take}
use Rattle.program_assembly.proofs.end_notes.add_frames.Given as goal

-- the frames so far are added
abbrev pub invariant-loop-frame : goal.invariant-loop-frame
invariant-loop-frame l = l.frames ≡ l.initial.frames ++ take l.frame-index l.from
