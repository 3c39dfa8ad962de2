use Rattle.std.proofs.Common.{◌≡◌, ◌∙◌, ℕ, ◌<◌, length, take, sym, ap, subst, arith, add-one}
use Rattle.std.specs.Prelude.{slice_get}
use Rattle.std.specs.Option.{option_map}
use Rattle.trace_values.specs.declared.item.TraceItem.{TraceItem}
use Rattle.trace_arena.specs.declared.node.NodeId.{NodeId}
use Rattle.trace_arena.specs.Nodes.{IsLive}
use Rattle.trace_arena.specs.Points.{Point, points}
use Rattle.program_occurrences.proofs.WalkLaws.{all-kept, kept-none, kept-next, none-kept, same-kept, step-index}
use Rattle.program_occurrences.specs.Programs.{occurrences_of}
use Rattle.program_occurrences.proofs.walk.occurrences.Goals as goal

pub returns-in_default : goal.returns-in_default
returns-in_default g c =
    none-kept c.args.texts.now c.args.definitions.now (g.P.Present.members c.args.present.now) (points c.args.arena.now.nodes c.args.root.0) c.at.result _ c.in_default.is c.at.ensures
    c.new-walk.result.kept c.new-walk.ensures.kept

pub loop-init : goal.loop-init
loop-init g c = (
  c.in-Some.ensures.0,
  c.in-Some.ensures.1,
  (λ some. c.in-Some.ensures.2),
  same-kept c.args.texts.now c.args.definitions.now (g.P.Present.members c.args.present.now) (points c.args.arena.now.nodes c.args.root.0) _ _ _ c.new-walk.ensures.calls c.new-walk.ensures.symbols c.new-walk.ensures.kept,
)

pub item-requires : goal.item-requires
item-requires g c = record { stands = c.loop.invariant.0 }

pub advance-requires-clause-live : goal.advance-requires-clause-live
advance-requires-clause-live g c =
    subst (λ (n : NodeId). IsLive c.args.arena.now.nodes n.0) (sym c.loop.invariant.1) c.requires.live

pub advance-requires-clause-stands : goal.advance-requires-clause-stands
advance-requires-clause-stands g c = c.loop.invariant.0

pub loop-preserved : goal.loop-preserved
loop-preserved g c =
    let nodes = c.args.arena.now.nodes in
    let ps = points nodes c.args.root.0 in
    let k = c.loop.counter in
    let held = c.loop.invariant in
    let item = c.item.result.now in
    let inside : k < length ps = omega (arith, c.loop-test.true, c.points-end.ensures.points) in
    let at : c.loop.cursor.index ≡ k = held.2 inside in
    let here : slice_get ps k ≡ slice_get (points nodes c.loop.cursor.root.0) c.loop.cursor.index =
    ap (λ (n : ℕ). slice_get ps n) (sym at) ∙ ap (λ (n : NodeId). slice_get (points nodes n.0) c.loop.cursor.index) (sym held.1) in (
      c.advance.ensures.stands,
      c.advance.ensures.root ∙ held.1,
      (λ lt.
          step-index c.advance.result c.advance.new.self.index c.loop.cursor.index k (length ps) (length (points nodes c.loop.cursor.root.0))
          c.advance.ensures.next c.advance.ensures.last (ap (λ (n : NodeId). length (points nodes n.0)) held.1) at lt),
      kept-next c.args.texts.now c.args.definitions.now (g.P.Present.members c.args.present.now) ps k c.calls.result item
          _ _ _ _ _ _ held.3
          (ap (option_map (λ (p : Point TraceItem). length p.calls)) here ∙ c.calls.ensures nodes held.0)
          (ap (option_map (λ (p : Point TraceItem). p.item)) here ∙ c.item.ensures)
          c.in_ok-pass.ensures.calls c.in_ok-pass.ensures.symbols c.in_ok-pass.ensures.kept,
    )

pub returns : goal.returns
returns g c =
    let ps = points c.args.arena.now.nodes c.args.root.0 in
    all-kept c.args.texts.now c.args.definitions.now (g.P.Present.members c.args.present.now) ps c.loop.counter _ _ _
    (omega (arith, c.loop-test.false, c.points-end.ensures.points)) c.loop.invariant.3
