use Rattle.std.proofs.Common.{◌≡◌, ◌++◌, take}
use Rattle.program_assembly.specs.PointNotes.{notes_at}
use Rattle.program_assembly.proofs.point_notes.add_at_stack.Given as goal

-- the notes so far are added
abbrev pub invariant-loop-note : goal.invariant-loop-note
invariant-loop-note l = l.notes ≡ l.initial.notes ++ notes_at l.stack (take l.note-index l.said)
