use Rattle.std.proofs.Common.{◌≡◌, ◌++◌, take}
use Rattle.std.specs.List.{flat_map}
use Rattle.program_assembly.specs.Stacks.{other_at}
use Rattle.program_assembly.proofs.point_notes.add_others_at_stack.Given as goal

-- those of the notes so far are added
abbrev pub invariant-loop-note : goal.invariant-loop-note
invariant-loop-note l = l.notes ≡ l.initial.notes ++ flat_map (other_at l.stack) (take l.note-index l.said)
