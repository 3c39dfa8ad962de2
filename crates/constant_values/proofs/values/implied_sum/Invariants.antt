use Rattle.std.proofs.Common.{◌≡◌, take}
use Rattle.std.specs.List.{sum_by}
use Rattle.constant_values.specs.Right.{implied_bytes}
use Rattle.constant_values.proofs.values.implied_sum.Given as goal

-- the bytes of the values so far
abbrev pub invariant-loop-text : goal.invariant-loop-text
invariant-loop-text l = l.bytes ≡ sum_by (implied_bytes l.kind) (take l.text-index l.texts)
