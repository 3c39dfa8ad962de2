use Rattle.std.proofs.Common.{◌<◌, ℕ, slice_index_or}
use Rattle.io_cases.proofs.words.is_positive.Given as goal

-- the sizes so far are positive
abbrev pub invariant-loop-size : goal.invariant-loop-size
invariant-loop-size l = (k d : ℕ) → k < l.size-index → 0 < slice_index_or l.sizes k d
