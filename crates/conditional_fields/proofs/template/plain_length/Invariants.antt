use Rattle.std.proofs.Common.{◌≡◌, ◌+◌, false, length}
use denote.Text.{Utf8}
use denote.Shadow.{shadow}
use Rattle.std.specs.Str.{chars}
use Rattle.conditional_fields.specs.Templates.{plain_length}
use Rattle.conditional_fields.proofs.template.plain_length.Given as goal

-- so many so far, and those that are left
abbrev pub invariant-loop-c : goal.invariant-loop-c
invariant-loop-c l = shadow (Utf8 l.rest) × (l.count + plain_length l.second (chars l.rest) ≡ plain_length false (chars l.text))

abbrev pub decreases-loop-c : goal.decreases-loop-c
decreases-loop-c l = length (chars l.rest)
