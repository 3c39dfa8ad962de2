use Rattle.std.proofs.Common.{◌≡◌, ◌+◌, ℕ, List, length}
use denote.Text.{Utf8}
use denote.Shadow.{shadow}
use Rattle.std.specs.Str.{chars}
use Rattle.hl_base.specs.Quoting.{IsBehind}
use Rattle.conditional_fields.specs.Endings.{ended, field_of}
use Rattle.conditional_fields.proofs.ending.field_length.Given as goal

-- so many so far, and those that are left behind them
abbrev pub invariant-loop-c : goal.invariant-loop-c
invariant-loop-c l =
    shadow (Utf8 l.rest)
    × ((before : List ℕ) × IsBehind l.nesting before × (l.count + length (ended before (chars l.rest)) ≡ length (field_of (chars l.text))))

abbrev pub decreases-loop-c : goal.decreases-loop-c
decreases-loop-c l = length (chars l.rest)
