use Rattle.std.proofs.Common.{◌≡◌, map, take}
use Rattle.trace_paths.specs.Touched.{frame_path}
use Rattle.program_names.specs.Paths.{with_paths}
use Rattle.program_names.proofs.paths.meet_call.Given as goal

-- the paths of the frames so far are met
abbrev pub invariant-loop-frame : goal.invariant-loop-frame
invariant-loop-frame l =
    l.met.keys ≡ with_paths l.initial.met.keys (map frame_path (take l.frame-index l.frames.outer))
