use Rattle.std.proofs.Common.{◌≡◌, ◌++◌, length}
use denote.Text.{Utf8}
use denote.Shadow.{shadow}
use Rattle.std.specs.Str.{chars}
use Rattle.std.specs.List.{slice_split}
use Rattle.constant_values.specs.Values.{is_comma}
use Rattle.constant_values.proofs.split.split_at_commas.Given as goal

-- the parts so far, and those of what is left
abbrev pub invariant-loop-part : goal.invariant-loop-part
invariant-loop-part l = shadow (Utf8 l.left) × (slice_split is_comma (chars l.text) ≡ l.parts.items ++ slice_split is_comma (chars l.left))

abbrev pub decreases-loop-part : goal.decreases-loop-part
decreases-loop-part l = length (chars l.left)
