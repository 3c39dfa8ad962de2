use Rattle.std.proofs.Common.{◌≡◌, ℕ, ◌<◌, map, take, length, sym, ap, subst, ◌∙◌, arith, add-one}
use Rattle.std.specs.Prelude.{slice_get}
use Rattle.std.specs.Option.{option_map}
use Rattle.trace_values.specs.declared.item.TraceItem.{TraceItem}
use Rattle.trace_arena.specs.declared.node.NodeId.{NodeId}
use Rattle.trace_arena.specs.Nodes.{IsLive}
use Rattle.trace_arena.specs.Points.{Point, points}
use Rattle.trace_variables.specs.Calls.{done_before}
use Rattle.trace_variables.specs.Seen.{done_with}
use Rattle.trace_variables.proofs.DoneLemmas.{done_more}
use Rattle.trace_variables.proofs.ValueLemmas.{step_index, none_first}
use Rattle.trace_variables.proofs.done.done_before.Goals as goal

pub returns-in_default : goal.returns-in_default
returns-in_default c =
    let ps = points c.args.arena.now.nodes c.args.root.0 in
    ap (map (λ i. i.now)) c.new-done.ensures.items
    ∙ sym (ap (done_before c.args.level) (none_first ps c.args.index c.at.result _ c.in_default.is c.at.ensures))

pub loop-init : goal.loop-init
loop-init c = (
  c.in-Some.ensures.0,
  c.in-Some.ensures.1,
  (λ some. c.in-Some.ensures.2),
  ap (map (λ i. i.now)) c.new-done.ensures.items,
)

pub item-requires : goal.item-requires
item-requires c = record { stands = c.loop.invariant.0 }

pub advance-requires-clause-live : goal.advance-requires-clause-live
advance-requires-clause-live c =
    subst (λ (n : NodeId). IsLive c.args.arena.now.nodes n.0) (sym c.loop.invariant.1) c.requires.live

pub advance-requires-clause-stands : goal.advance-requires-clause-stands
advance-requires-clause-stands c = c.loop.invariant.0

pub loop-preserved : goal.loop-preserved
loop-preserved c =
    let nodes = c.args.arena.now.nodes in
    let ps = points nodes c.args.root.0 in
    let k = c.loop.counter in
    let held = c.loop.invariant in
    let item = c.item.result.now in
    let inside : k < length ps = omega (arith, c.loop-test.true, c.requires.inside) in
    let at : c.loop.cursor.index ≡ k = held.2 inside in
    let here : slice_get ps k ≡ slice_get (points nodes c.loop.cursor.root.0) c.loop.cursor.index =
    ap (λ (n : ℕ). slice_get ps n) (sym at) ∙ ap (λ (n : NodeId). slice_get (points nodes n.0) c.loop.cursor.index) (sym held.1) in (
      c.advance.ensures.stands,
      c.advance.ensures.root ∙ held.1,
      (λ lt.
          step_index c.advance.result c.advance.new.self.index c.loop.cursor.index k (length ps) (length (points nodes c.loop.cursor.root.0))
          c.advance.ensures.next c.advance.ensures.last (ap (λ (n : NodeId). length (points nodes n.0)) held.1) at lt),
      c.in_ok-pass.ensures
          ∙ ap (done_with c.args.level c.calls.result item) held.3
          ∙ sym (done_more c.args.level ps k c.calls.result item
          (ap (option_map (λ (p : Point TraceItem). length p.calls)) here ∙ c.calls.ensures nodes held.0)
          (ap (option_map (λ (p : Point TraceItem). p.item)) here ∙ c.item.ensures))
          ∙ ap (λ (n : ℕ). done_before c.args.level (take n ps)) (sym (add-one k)),
    )

pub returns : goal.returns
returns c =
    let ps = points c.args.arena.now.nodes c.args.root.0 in
    let end : c.loop.counter ≡ c.args.index = omega (arith, c.loop-test.false, c.loop.auto.counter-end) in
    c.loop.invariant.3 ∙ ap (λ (n : ℕ). done_before c.args.level (take n ps)) end
