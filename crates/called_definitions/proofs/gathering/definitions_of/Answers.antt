use Rattle.std.proofs.Common.{◌≡◌, ◌∙◌, ℕ, ◌<◌, length, take, sym, ap, subst, arith}
use Rattle.std.specs.Prelude.{slice_get}
use Rattle.std.specs.Option.{option_map}
use Rattle.trace_values.specs.declared.item.TraceItem.{TraceItem}
use Rattle.trace_arena.specs.declared.node.NodeId.{NodeId}
use Rattle.trace_arena.specs.Nodes.{IsLive}
use Rattle.trace_arena.specs.Points.{Point, points}
use Rattle.called_definitions.specs.Told.{AreFound}
use Rattle.called_definitions.proofs.CalledLaws.{all-known, known-next, known-none, none-known, step-index}
use Rattle.called_definitions.proofs.ToldLaws.{none_told}
use Rattle.called_definitions.proofs.gathering.definitions_of.Goals as goal

pub returns-in_default : goal.returns-in_default
returns-in_default g c =
    none-known c.args.texts.now (g.P.Present.members c.args.present.now) (points c.args.arena.now.nodes c.args.root.0) c.at.result _ c.in_default.is c.at.ensures
    c.new-known.result c.new-known.ensures

pub loop-init : goal.loop-init
loop-init g c = (
  c.in-Some.ensures.0,
  c.in-Some.ensures.1,
  (λ some. c.in-Some.ensures.2),
  subst (AreFound (g.P.Present.members c.args.present.now)) (sym c.new-members.ensures) (none_told (g.P.Present.members c.args.present.now)),
  known-none c.args.texts.now (g.P.Present.members c.args.present.now) (points c.args.arena.now.nodes c.args.root.0) c.new-known.result c.new-known.ensures,
)

pub item-requires : goal.item-requires
item-requires g c = record { stands = c.loop.invariant.0 }

pub advance-requires-clause-live : goal.advance-requires-clause-live
advance-requires-clause-live g c =
    subst (λ (n : NodeId). IsLive c.args.arena.now.nodes n.0) (sym c.loop.invariant.1) c.requires.live

pub advance-requires-clause-stands : goal.advance-requires-clause-stands
advance-requires-clause-stands g c = c.loop.invariant.0

pub loop-preserved : goal.loop-preserved
loop-preserved g c =
    let nodes = c.args.arena.now.nodes in
    let ps = points nodes c.args.root.0 in
    let k = c.loop.counter in
    let held = c.loop.invariant in
    let item = c.item.result.now in
    let inside : k < length ps = omega (arith, c.loop-test.true, c.points-end.ensures.points) in
    let at : c.loop.cursor.index ≡ k = held.2 inside in
    let here : slice_get ps k ≡ slice_get (points nodes c.loop.cursor.root.0) c.loop.cursor.index =
    ap (λ (n : ℕ). slice_get ps n) (sym at) ∙ ap (λ (n : NodeId). slice_get (points nodes n.0) c.loop.cursor.index) (sym held.1) in (
      c.advance.ensures.stands,
      c.advance.ensures.root ∙ held.1,
      (λ lt.
          step-index c.advance.result c.advance.new.self.index c.loop.cursor.index k (length ps) (length (points nodes c.loop.cursor.root.0))
          c.advance.ensures.next c.advance.ensures.last (ap (λ (n : NodeId). length (points nodes n.0)) held.1) at lt),
      c.in_ok-add_definition.ensures.found,
      known-next c.args.texts.now (g.P.Present.members c.args.present.now) ps k item c.loop.known c.add_definition.new.known held.4
          (ap (option_map (λ (p : Point TraceItem). p.item)) here ∙ c.item.ensures) c.in_ok-add_definition.ensures.known,
    )

pub returns : goal.returns
returns g c =
    let ps = points c.args.arena.now.nodes c.args.root.0 in
    all-known c.args.texts.now (g.P.Present.members c.args.present.now) ps c.loop.counter c.loop.known (omega (arith, c.loop-test.false, c.points-end.ensures.points)) c.loop.invariant.4
