use Rattle.std.proofs.Common.{◌≡◌, ◌++◌, take}
use Rattle.macro_expand.proofs.acting.joined.Given as goal

-- the notes so far are added
abbrev pub invariant-loop-note : goal.invariant-loop-note
invariant-loop-note l = l.notes ≡ l.initial.notes ++ take l.note-index l.note-items
