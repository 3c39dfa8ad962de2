use Rattle.std.proofs.Common.{◌≡◌, ◌<◌, length, Some, sym, ap, ◌∙◌, arith}
use Rattle.std.specs.Prelude.{slice_get}
use Rattle.trace_arena.specs.declared.node.NodeId.{NodeId}
use Rattle.trace_arena.specs.Points.{points}
use Rattle.trace_cursor.proofs.PathLemmas.{get_some}
use Rattle.trace_variables.proofs.ValueLemmas.{step_index}
use Rattle.macro_debugger.specs.Stops.{reason_at}
use Rattle.macro_debugger.proofs.SearchLemmas.{stops_here, goes_on}
use Rattle.macro_debugger.proofs.debug.Debug.first_stop.Goals as goal

pub returns-in-Some-reason_at-clause-stop : goal.returns-in-Some-reason_at-clause-stop
returns-in-Some-reason_at-clause-stop c =
    let nodes = c.args.arena.now.nodes in
    let trace = points nodes c.args.self.now.root.0 in
    let i = c.loop-index.index in
    let held = c.loop-index.invariant in
    let inside : i < length trace = omega (arith, c.loop-index-test.true, c.requires.trace.whole, ap (λ w. w.points) c.self.view_is) in
    let point = get_some trace i inside in
    let here : slice_get (points nodes c.loop-index.cursor.root.0) c.loop-index.cursor.index ≡ Some point.0 =
    ap (λ (r : NodeId). slice_get (points nodes r.0) c.loop-index.cursor.index) held.1
    ∙ ap (slice_get trace) (held.2 inside) ∙ point.1 in
    stops_here (reason_at c.args.self.now.breakpoints c.args.rule c.args.from) trace point.0 i c.in-Some-reason_at.reason point.1
    (c.in-Some-reason_at.ensures point.0 here)
    ∙ held.3

pub loop-index-preserved : goal.loop-index-preserved
loop-index-preserved c =
    let nodes = c.args.arena.now.nodes in
    let trace = points nodes c.args.self.now.root.0 in
    let i = c.loop-index.index in
    let held = c.loop-index.invariant in
    let inside : i < length trace = omega (arith, c.loop-index-test.true, c.requires.trace.whole, ap (λ w. w.points) c.self.view_is) in
    let point = get_some trace i inside in
    let here : slice_get (points nodes c.loop-index.cursor.root.0) c.loop-index.cursor.index ≡ Some point.0 =
    ap (λ (r : NodeId). slice_get (points nodes r.0) c.loop-index.cursor.index) held.1
    ∙ ap (slice_get trace) (held.2 inside) ∙ point.1 in (
      c.advance.ensures.stands,
      c.advance.ensures.root ∙ held.1,
      (λ lt.
          step_index c.advance.result c.advance.new.self.index c.loop-index.cursor.index i (length trace)
          (length (points nodes c.loop-index.cursor.root.0)) c.advance.ensures.next c.advance.ensures.last
          (ap (λ (r : NodeId). length (points nodes r.0)) held.1) (held.2 inside) lt),
      sym
          (goes_on (reason_at c.args.self.now.breakpoints c.args.rule c.args.from) trace point.0 i point.1
          (sym c.in_default-reason_at.is ∙ c.reason_at.ensures point.0 here))
          ∙ held.3,
    )
