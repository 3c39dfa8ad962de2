use Rattle.std.proofs.Common.{◌≡◌, take}
use Rattle.std.specs.List.{flat_map}
use Rattle.program_assembly.specs.Stacks.{frames_there}
use Rattle.program_names.proofs.stacks.frames_there.Given as goal

-- the frames of the items so far are there
abbrev pub invariant-loop-place : goal.invariant-loop-place
invariant-loop-place l = l.frames ≡ flat_map (frames_there l.arena.nodes) (take l.place-index l.places)
