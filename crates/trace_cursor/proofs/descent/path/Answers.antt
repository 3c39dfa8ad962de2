use Rattle.std.proofs.Common.{subst, sym}
use Rattle.trace_cursor.specs.Pasts.{Follows, IsPath}
use Rattle.trace_cursor.proofs.PathLemmas.{follows_start, follows_lower, follows_step, follows_end}
use Rattle.trace_cursor.proofs.WayLemmas.{path_there}
use Rattle.trace_cursor.proofs.descent.path.Goals as goal

pub loop-inner-init : goal.loop-inner-init
loop-inner-init g c =
    subst (Follows c.args.arena.now.nodes c.args.root.0 c.args.index c.args.root.0 c.args.index) (sym c.new-places.ensures.items)
    (follows_start c.args.arena.now.nodes c.arena_is_whole.ensures.whole c.args.root.0 c.args.index c.requires.live c.requires.inside)

pub loop-inner-smaller : goal.loop-inner-smaller
loop-inner-smaller g c =
    follows_lower c.args.arena.now.nodes c.arena_is_whole.ensures.whole c.loop-inner.node.0 c.loop-inner.rest
    c.in-Inside.inner.child.0 c.in-Inside.inner.left c.in-Inside.inner.at c.in-Inside.ensures

pub loop-inner-preserved : goal.loop-inner-preserved
loop-inner-preserved g c =
    subst (Follows c.args.arena.now.nodes c.args.root.0 c.args.index c.in-Inside.inner.child.0 c.in-Inside.inner.left)
    (sym c.in_ok-push_call-in-Inside.ensures)
    (follows_step c.args.arena.now.nodes c.arena_is_whole.ensures.whole c.args.root.0 c.args.index c.loop-inner.node c.loop-inner.rest
    c.in-Inside.inner.child.0 c.in-Inside.inner.left c.in-Inside.inner.at c.loop-inner.places.items c.loop-inner.invariant c.in-Inside.ensures)

pub returns-in-Own-clause-path : goal.returns-in-Own-clause-path
returns-in-Own-clause-path g c =
    subst (IsPath c.args.arena.now.nodes c.args.root.0 c.args.index) (sym c.in_ok-push-in-Own.ensures.items)
    (follows_end c.args.arena.now.nodes c.arena_is_whole.ensures.whole c.args.root.0 c.args.index c.loop-inner.node c.loop-inner.rest
    c.in-Own.run'.at c.in-Own.run'.stop c.loop-inner.places.items c.loop-inner.invariant c.in-Own.ensures)

pub returns-in-Own-clause-there : goal.returns-in-Own-clause-there
returns-in-Own-clause-there g c =
    path_there c.args.arena.now.nodes c.arena_is_whole.ensures.whole c.args.root.0 c.args.index _ (returns-in-Own-clause-path g c)
