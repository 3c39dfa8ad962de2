use Rattle.std.proofs.Common.{◌≡◌, ℕ, ◌+◌, ◌<◌, length, take, get_or, Some, slice_get}
use Rattle.literal_pools.specs.Pools.{offset, bytes_before_rank, bytes_of_rank}
use Rattle.literal_pools.proofs.offsets.offsets.Given as goal

abbrev pub invariant-loop-length : goal.invariant-loop-length
invariant-loop-length l = record {
  four : length l.next ≡ 4;
  next : (r : ℕ) → r < 4 → get_or l.next r 0 ≡ bytes_before_rank r l.lengths + bytes_of_rank r (take l.length-index l.lengths);
  as_many : length l.offsets.items ≡ l.length-index;
  each : (place n : ℕ) → place < l.length-index → slice_get l.lengths place ≡ Some n → slice_get l.offsets.items place ≡ Some (offset l.lengths place n);
}
