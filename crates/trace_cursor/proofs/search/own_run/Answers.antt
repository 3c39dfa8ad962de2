use Rattle.std.proofs.Common.{arith}
use Rattle.trace_cursor.proofs.SearchLemmas.{read_live, read_behind, own_first, own_behind, own_owns}
use Rattle.trace_cursor.proofs.search.own_run.Goals as goal

pub returns-then-count-eq0 : goal.returns-then-count-eq0
returns-then-count-eq0 g c =
    own_first c.args.arena.now.nodes c.arena_is_whole.ensures.whole c.arena_is_whole.ensures.woven c.arena_is_whole.ensures.counted
    c.args.node.0 c.args.rest c.args.count c.links-links.result.now c.links-links.ensures c.requires.counts
    c.items-items.result.now c.items-items.ensures c.gap_end-stop.result c.gap_end-stop.ensures c.requires.behind (omega (arith, c.if-count-eq0.true))

pub points-requires : goal.points-requires
points-requires g c = record {
  live = read_live c.args.arena.now.nodes c.arena_is_whole.ensures.whole c.arena_is_whole.ensures.woven c.arena_is_whole.ensures.counted
      c.args.node.0 c.args.rest c.args.count c.links-links.result.now c.links-links.ensures c.requires.counts (omega (arith, c.if-count-eq0.false));
}

pub overflow_sub-behind-2 : goal.overflow_sub-behind-2
overflow_sub-behind-2 g c =
    omega (
      arith,
      c.points.ensures.total,
      read_behind c.args.arena.now.nodes c.arena_is_whole.ensures.whole c.arena_is_whole.ensures.woven c.arena_is_whole.ensures.counted
          c.args.node.0 c.args.rest c.args.count c.links-links.result.now c.links-links.ensures c.requires.counts (omega (arith, c.if-count-eq0.false)) c.requires.behind,
    )

pub overflow_add-result : goal.overflow_add-result
overflow_add-result g c =
    let own = own_behind c.args.arena.now.nodes c.arena_is_whole.ensures.whole c.arena_is_whole.ensures.woven c.arena_is_whole.ensures.counted
    c.args.node.0 c.args.rest c.args.count c.links-links.result.now c.links-links.ensures c.requires.counts
    c.items-items.result.now c.items-items.ensures c.gap_end-stop.result c.gap_end-stop.ensures c.requires.behind c.points.result (omega (arith, c.if-count-eq0.false)) c.points.ensures.total in
    let owns = own_owns c.args.arena.now.nodes c.arena_is_whole.ensures.whole c.arena_is_whole.ensures.woven c.arena_is_whole.ensures.counted
    c.args.node.0 c.args.rest _ c.gap_end-stop.result c.requires.inside own in
    omega (arith, owns.inside, c.gap_end-stop.type_inv)

pub returns : goal.returns
returns g c =
    own_behind c.args.arena.now.nodes c.arena_is_whole.ensures.whole c.arena_is_whole.ensures.woven c.arena_is_whole.ensures.counted
    c.args.node.0 c.args.rest c.args.count c.links-links.result.now c.links-links.ensures c.requires.counts
    c.items-items.result.now c.items-items.ensures c.gap_end-stop.result c.gap_end-stop.ensures c.requires.behind c.points.result (omega (arith, c.if-count-eq0.false)) c.points.ensures.total
