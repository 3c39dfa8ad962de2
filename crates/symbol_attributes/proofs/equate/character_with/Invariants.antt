use Rattle.std.proofs.Common.{◌≡◌, ◌-◌}
use Rattle.symbol_attributes.specs.Equates.{character_among, character_with}
use Rattle.symbol_attributes.proofs.equate.character_with.Given as goal

-- none of the characters so far has the byte
abbrev pub invariant-loop-c : goal.invariant-loop-c
invariant-loop-c l = character_among (127 - l.c) l.c l.byte ≡ character_with l.byte
