use Rattle.std.proofs.Common.{◌≡◌, ◌+◌, ◌≤◌, length}
use denote.Text.{Utf8}
use denote.Shadow.{shadow}
use Rattle.std.specs.Str.{chars}
use Rattle.constant_grammar.specs.Digits.{characters}
use Rattle.constant_grammar.proofs.digits.value_character_count.Given as goal

-- the characters so far, and those that are left behind them
abbrev pub invariant-loop-c : goal.invariant-loop-c
invariant-loop-c l = shadow (Utf8 l.left) × ((l.count + characters (chars l.left) ≡ characters (chars l.text)) × (l.count + length (chars l.left) ≤ length l.text))

abbrev pub decreases-loop-c : goal.decreases-loop-c
decreases-loop-c l = length (chars l.left)
