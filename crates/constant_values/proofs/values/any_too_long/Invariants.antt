use Rattle.std.proofs.Common.{◌≡◌, drop}
use Rattle.std.specs.List.{list_any}
use Rattle.constant_values.specs.Right.{is_too_long}
use Rattle.constant_values.proofs.values.any_too_long.Given as goal

-- none of those so far
abbrev pub invariant-loop-text : goal.invariant-loop-text
invariant-loop-text l = list_any (is_too_long l.kind l.explicit) l.texts ≡ list_any (is_too_long l.kind l.explicit) (drop l.text-index l.texts)
