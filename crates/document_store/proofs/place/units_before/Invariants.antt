use Rattle.std.proofs.Common.{◌≡◌, ◌+◌, length, take, drop}
use Rattle.std.specs.Prelude.{chars}
use Rattle.hl_base.specs.Texts.{units}
use Rattle.document_store.proofs.place.units_before.Given as goal

-- the width so far and that of the characters that are left
abbrev pub invariant-loop-c : goal.invariant-loop-c
invariant-loop-c l = l.width + units (take l.left (drop (length l.yielded) (chars l.line))) ≡ units (take l.characters (chars l.line))
