use Rattle.std.proofs.Common.{◌≡◌, length}
use denote.Text.{Utf8}
use denote.Shadow.{shadow}
use Rattle.std.specs.Str.{chars}
use Rattle.constant_values.specs.Numbers.{number_behind}
use Rattle.constant_values.proofs.number.magnitude.Given as goal

-- the digits so far, and those that are left behind them
abbrev pub invariant-loop-c : goal.invariant-loop-c
invariant-loop-c l = shadow (Utf8 l.left) × (number_behind l.number (chars l.left) ≡ number_behind 0 (chars l.text))

abbrev pub decreases-loop-c : goal.decreases-loop-c
decreases-loop-c l = length (chars l.left)
