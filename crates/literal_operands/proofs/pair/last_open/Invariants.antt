use Rattle.std.proofs.Common.{◌≡◌, [], length, drop}
use Rattle.std.specs.Prelude.{chars}
use Rattle.literal_operands.specs.Pairs.{last_open}
use Rattle.literal_operands.proofs.Opens.{IsFound}
use Rattle.literal_operands.proofs.pair.last_open.Given as goal

-- the last parenthesis so far and that of what is left is that of the text
abbrev pub invariant-loop-c : goal.invariant-loop-c
invariant-loop-c l = (l.at ≡ length l.yielded) × IsFound l.nesting l.found l.at (drop (length l.yielded) (chars l.text)) (last_open [] (chars l.text))
