use Rattle.std.proofs.Common.{◌≡◌, ◌<◌, get_or, rules, arith}
use Rattle.literal_pools.specs.Pools.{rank}
use Rattle.literal_pools.proofs.Sums.{next_within}
use Rattle.literal_pools.proofs.offsets.bytes_before.Goals as goal

pub overflow_add-bytes : goal.overflow_add-bytes
overflow_add-bytes c =
    let ns = c.args.lengths.now in
    let at = c.loop-length.length-index in
    let value : c.from-bytes.result ≡ get_or ns at 0 = search rules in
    let low : rank (get_or ns at 0) < c.args.bound = let is = c.rank.ensures.rank in omega (arith, c.if-rank-bound.true) in
    let within = next_within c.args.bound ns at c.loop-length-test.true low in
    let so_far = c.loop-length.invariant in
    let total = c.requires in
    grind (arith, value, within, so_far, total, c.ranges.size.fits)
