use Rattle.std.proofs.Common.{◌≡◌, ◌+◌, length, drop}
use Rattle.std.specs.Prelude.{chars}
use Rattle.document_store.specs.Positions.{characters_before}
use Rattle.document_store.specs.Places.{bytes_before}
use Rattle.document_store.proofs.place.before_unit.Given as goal

-- what was counted stands before the unit, and what is left of it reaches into what is left of the line
abbrev pub invariant-loop-c : goal.invariant-loop-c
invariant-loop-c l =
    (l.before.characters ≡ length l.yielded)
    × (l.before.bytes ≡ bytes_before (chars l.line) (length l.yielded))
    × (characters_before l.unit (chars l.line) ≡ length l.yielded + characters_before l.left (drop (length l.yielded) (chars l.line)))
