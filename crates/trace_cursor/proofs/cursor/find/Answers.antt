use Rattle.std.proofs.Common.{◌+◌, ◌≤◌, List, length, sym, ap, subst, ◌∙◌, arith}
use Rattle.trace_values.specs.declared.item.TraceItem.{TraceItem}
use Rattle.trace_arena.specs.Points.{last_before}
use Rattle.trace_cursor.specs.Stacks.{frames_in, counted}
use Rattle.trace_cursor.specs.Places.{Comes}
use Rattle.trace_cursor.proofs.CursorLemmas.{comes_start, comes_step, comes_end}
use Rattle.trace_cursor.proofs.SearchLemmas.{child_enters}
use Rattle.trace_cursor.proofs.cursor.find.Goals as goal

pub loop-inner-init : goal.loop-inner-init
loop-inner-init c =
    comes_start c.args.arena.now.nodes c.arena_is_whole.ensures.whole c.arena_is_whole.ensures.woven c.arena_is_whole.ensures.counted c.args.root.0 c.args.index c.requires.live c.requires.inside

pub place_at-requires-clause-live : goal.place_at-requires-clause-live
place_at-requires-clause-live c = c.loop-inner.invariant.descends.live

pub place_at-requires-clause-inside : goal.place_at-requires-clause-inside
place_at-requires-clause-inside c = c.loop-inner.invariant.descends.inside

pub items-requires : goal.items-requires
items-requires c = record { live = c.loop-inner.invariant.descends.live }

pub frames_before-requires : goal.frames_before-requires
frames_before-requires c =
    subst (λ (is : List TraceItem). c.in-Inside.inner.at ≤ length is) (sym c.items.ensures)
    (child_enters c.args.arena.now.nodes c.arena_is_whole.ensures.whole c.arena_is_whole.ensures.woven c.arena_is_whole.ensures.counted
    c.loop-inner.node.0 c.loop-inner.rest c.in-Inside.inner.child.0 c.in-Inside.inner.left c.in-Inside.inner.at c.in-Inside.ensures).within_items

pub overflow_add-calls : goal.overflow_add-calls
overflow_add-calls c =
    let into =
    child_enters c.args.arena.now.nodes c.arena_is_whole.ensures.whole c.arena_is_whole.ensures.woven c.arena_is_whole.ensures.counted
    c.loop-inner.node.0 c.loop-inner.rest c.in-Inside.inner.child.0 c.in-Inside.inner.left c.in-Inside.inner.at c.in-Inside.ensures in
    omega (arith, c.loop-inner.invariant.before, into.past_items, c.calls_before-calls.ensures, c.ranges.index)

pub loop-inner-smaller : goal.loop-inner-smaller
loop-inner-smaller c =
    (child_enters c.args.arena.now.nodes c.arena_is_whole.ensures.whole c.arena_is_whole.ensures.woven c.arena_is_whole.ensures.counted
    c.loop-inner.node.0 c.loop-inner.rest c.in-Inside.inner.child.0 c.in-Inside.inner.left c.in-Inside.inner.at c.in-Inside.ensures).lower

pub loop-inner-preserved : goal.loop-inner-preserved
loop-inner-preserved c =
    subst (λ outer. Comes c.args.arena.now.nodes c.args.root.0 c.args.index c.in-Inside.inner.child.0 c.in-Inside.inner.left outer
    (c.loop-inner.calls + c.calls_before-calls.result)) (sym c.more_frames-outer.ensures)
    (subst (λ more. Comes c.args.arena.now.nodes c.args.root.0 c.args.index c.in-Inside.inner.child.0 c.in-Inside.inner.left
    (counted (c.loop-inner.outer + c.frames_before.result)) (c.loop-inner.calls + more)) (sym c.calls_before-calls.ensures)
    (comes_step c.args.arena.now.nodes c.arena_is_whole.ensures.whole c.arena_is_whole.ensures.woven c.arena_is_whole.ensures.counted
    c.args.root.0 c.args.index c.loop-inner.node.0 c.loop-inner.rest c.loop-inner.outer c.loop-inner.calls
    c.in-Inside.inner.child.0 c.in-Inside.inner.left c.in-Inside.inner.at _ c.loop-inner.invariant c.in-Inside.ensures
    (c.frames_before.ensures ∙ ap (λ is. length (frames_in (last_before c.in-Inside.inner.at is))) c.items.ensures)))

pub returns-in-Own-clause-stands : goal.returns-in-Own-clause-stands
returns-in-Own-clause-stands c =
    comes_end c.args.arena.now.nodes c.arena_is_whole.ensures.whole c.arena_is_whole.ensures.woven c.arena_is_whole.ensures.counted
    (record { root = c.args.root; index = c.args.index; node = c.loop-inner.node; at = c.in-Own.run'.at; stop = c.in-Own.run'.stop; outer = c.loop-inner.outer; calls = c.loop-inner.calls })
    c.loop-inner.rest c.loop-inner.invariant c.in-Own.ensures
