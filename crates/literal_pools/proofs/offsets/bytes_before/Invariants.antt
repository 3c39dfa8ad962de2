use Rattle.std.proofs.Common.{◌≡◌, take}
use Rattle.literal_pools.specs.Pools.{bytes_before_rank}
use Rattle.literal_pools.proofs.offsets.bytes_before.Given as goal

abbrev pub invariant-loop-length : goal.invariant-loop-length
invariant-loop-length l = l.bytes ≡ bytes_before_rank l.bound (take l.length-index l.lengths)
