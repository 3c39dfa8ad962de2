use Rattle.std.proofs.Common.{◌≡◌, drop}
use Rattle.std.specs.List.{list_any}
use Rattle.constant_values.specs.Values.{is_wrong_text}
use Rattle.constant_values.proofs.values.any_wrong.Given as goal

-- none of those so far
abbrev pub invariant-loop-text : goal.invariant-loop-text
invariant-loop-text l = list_any (is_wrong_text l.kind) l.texts ≡ list_any (is_wrong_text l.kind) (drop l.text-index l.texts)
