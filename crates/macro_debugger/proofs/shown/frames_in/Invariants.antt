use Rattle.std.proofs.Common.{◌≡◌, take}
use Rattle.macro_debugger.specs.Seen.{frames_there}
use Rattle.macro_debugger.proofs.shown.frames_in.Given as goal

-- the frames of the places so far
abbrev pub invariant-loop-place : goal.invariant-loop-place
invariant-loop-place l = l.frames ≡ frames_there l.arena.nodes (take l.place-index l.places)
