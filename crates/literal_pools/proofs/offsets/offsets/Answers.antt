use Rattle.std.proofs.Common.{◌≡◌, ◌<◌, ◌+◌, ◌∙◌, ap, sym, get_or, take, length, rules, arith, slice_get, length-set}
use Rattle.std.proofs.lemmas.List.{length_push}
use Rattle.std.proofs.lemmas.Option.{slice_get_within}
use Rattle.literal_pools.specs.Pools.{rank, offset, bytes_before_rank, bytes_of_rank}
use Rattle.literal_pools.proofs.Sums.{ends_within}
use Rattle.literal_pools.proofs.Steps.{begins, moves_on, pushed}
use Rattle.literal_pools.proofs.offsets.offsets.Goals as goal

pub loop-length-init : goal.loop-length-init
loop-length-init c = record {
  four = search rules;
  next = begins c.args.lengths.now c.bytes_before.result c.bytes_before-2.result c.bytes_before-3.result c.bytes_before.ensures c.bytes_before-2.ensures c.bytes_before-3.ensures;
  as_many = search rules;
  each = λ place n low at. absurd (omega arith);
}

pub overflow_add-next : goal.overflow_add-next
overflow_add-next c =
    let ns = c.args.lengths.now in
    let at = c.loop-length.length-index in
    let r = c.rank-rank.result in
    let value : c.from.result ≡ get_or ns at 0 = search rules in
    let is : rank (get_or ns at 0) ≡ r = sym c.rank-rank.ensures.rank in
    let so_far = c.loop-length.invariant.next r c.rank-rank.ensures.small in
    let within = ends_within r ns at c.loop-length-test.true is in
    let total = c.requires in
    grind (arith, value, so_far, within, total, c.ranges.size.fits)

pub loop-length-preserved : goal.loop-length-preserved
loop-length-preserved c =
    let ns = c.args.lengths.now in
    let at = c.loop-length.length-index in
    let r = c.rank-rank.result in
    let now = c.loop-length.invariant in
    let inside = c.loop-length-test.true in
    let value : c.from.result ≡ get_or ns at 0 = search rules in
    let is : r ≡ rank (get_or ns at 0) = c.rank-rank.ensures.rank in
    let here : get_or c.loop-length.next r 0 ≡ offset ns at (get_or ns at 0) =
    now.next r c.rank-rank.ensures.small ∙ ap (λ k. bytes_before_rank k ns + bytes_of_rank k (take at ns)) is in
    record {
      four = length-set c.loop-length.next r _ ∙ now.four;
      next = moves_on c.loop-length.next ns at r c.from.result now.four inside value (is ∙ ap rank (sym value)) c.rank-rank.ensures.small now.next;
      as_many = ap length c.in_ok-push.ensures.items ∙ length_push c.loop-length.offsets.items _ ∙ ap (λ n. n + 1) now.as_many;
      each = λ place n low there.
          ap (λ xs. slice_get xs place) c.in_ok-push.ensures.items
          ∙ pushed c.loop-length.offsets.items ns at (get_or c.loop-length.next r 0) now.as_many inside here now.each place n low there;
    }

pub returns : goal.returns
returns c =
    let now = c.loop-length.invariant in
    let past = c.loop-length-test.false in
    record {
      as_many = search rules;
      each = λ place n at.
          now.each place n (let inside : place < length c.args.lengths.now = slice_get_within c.args.lengths.now place n at in omega arith) at;
    }
