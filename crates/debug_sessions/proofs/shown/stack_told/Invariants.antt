use Rattle.std.proofs.Common.{◌≡◌, map, take}
use Rattle.debug_sessions.specs.Shown.{shown_frame}
use Rattle.debug_sessions.proofs.shown.stack_told.Given as goal

-- the frames so far, the outermost first
abbrev pub invariant-loop-frame : goal.invariant-loop-frame
invariant-loop-frame l = l.shown.items ≡ map (shown_frame l.store.store.paths) (take l.frame-index l.frames)
