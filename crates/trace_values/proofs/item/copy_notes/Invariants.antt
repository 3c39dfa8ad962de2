use Rattle.std.proofs.Common.{◌≡◌, take}
use Rattle.trace_values.proofs.item.copy_notes.Given as goal

-- the notes so far are copied
abbrev pub invariant-loop-note : goal.invariant-loop-note
invariant-loop-note l = l.copied ≡ take l.note-index l.note-items
