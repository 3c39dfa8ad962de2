use Rattle.std.proofs.Common.{arith, refl}
use Rattle.trace_arena.specs.Nodes.{node_at}
use Rattle.trace_cursor.proofs.SearchLemmas.{read_live, read_none, read_past, read_child}
use Rattle.trace_cursor.proofs.search.in_child.Goals as goal

pub returns-then-count-eq0-clause-none : goal.returns-then-count-eq0-clause-none
returns-then-count-eq0-clause-none g c none =
    read_none c.args.arena.now.nodes c.arena_is_whole.ensures.whole c.arena_is_whole.ensures.woven c.arena_is_whole.ensures.counted c.args.node.0 c.args.rest c.args.count
    (node_at c.args.arena.now.nodes c.args.node.0).links refl c.requires.counts (omega (arith, c.if-count-eq0.true))

pub points-requires : goal.points-requires
points-requires g c = record {
  live = read_live c.args.arena.now.nodes c.arena_is_whole.ensures.whole c.arena_is_whole.ensures.woven c.arena_is_whole.ensures.counted c.args.node.0 c.args.rest c.args.count
      c.links.result.now c.links.ensures c.requires.counts (omega (arith, c.if-count-eq0.false));
}

pub returns-then-left-points-clause-none : goal.returns-then-left-points-clause-none
returns-then-left-points-clause-none g c none =
    read_past c.args.arena.now.nodes c.arena_is_whole.ensures.whole c.arena_is_whole.ensures.woven c.arena_is_whole.ensures.counted c.args.node.0 c.args.rest c.args.count
    c.links.result.now c.links.ensures c.requires.counts (omega (arith, c.if-count-eq0.false))
    (omega (arith, c.points.ensures.total, c.if-left-points.true))

pub returns-clause-child : goal.returns-clause-child
returns-clause-child g c =
    read_child c.args.arena.now.nodes c.arena_is_whole.ensures.whole c.arena_is_whole.ensures.woven c.arena_is_whole.ensures.counted c.args.node.0 c.args.rest c.args.count
    c.links.result.now c.links.ensures c.requires.counts (omega (arith, c.if-count-eq0.false))
    (omega (arith, c.points.ensures.total, c.if-left-points.false))
