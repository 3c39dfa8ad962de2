use Rattle.std.proofs.Common.{◌≡◌, Option, ℕ, Some, sym, ap, subst, ◌∙◌}
use Rattle.std.specs.Prelude.{slice_get, is_some, filter}
use Rattle.std.specs.Bool.{beq}
use Rattle.std.specs.Option.{option_map, option_and_then}
use Rattle.std.proofs.lemmas.Result.{IfOk-weaker}
use Rattle.trace_arena.specs.declared.node.NodeId.{NodeId}
use Rattle.trace_arena.specs.Points.{points}
use Rattle.trace_cursor.specs.Stacks.{stack_of}
use Rattle.trace_variables.specs.Variables.{variables_of}
use Rattle.macro_debugger.specs.Stops.{point_at}
use Rattle.macro_debugger.specs.Walks.{trace_of, IsFrame}
use Rattle.macro_debugger.proofs.FrameLemmas.{frame_there, part_there}
use Rattle.macro_debugger.proofs.debug.Debug.variables.Goals as goal

pub unwrap-requires : goal.unwrap-requires
unwrap-requires c =
    let nodes = c.args.arena.now.nodes in
    let index = c.index.result in
    let at_place : IsFrame (option_map stack_of (slice_get (trace_of nodes c.args.self.now) index)) c.args.frame =
    subst (λ (place : Option ℕ). IsFrame (option_map stack_of (point_at (trace_of nodes c.args.self.now) place)) c.args.frame)
    c.index.ensures.place c.requires.frame in
    ap is_some c.in_ok-shown.ensures
    ∙ frame_there c.frames_have_variables.ensures (points nodes c.self.inside.root.0) index c.args.frame
    (subst (λ (root : NodeId). IsFrame (option_map stack_of (slice_get (points nodes root.0) index)) c.args.frame)
    (sym (ap (λ w. w.root) c.self.view_is)) at_place)

pub returns : goal.returns
returns c =
    let nodes = c.args.arena.now.nodes in
    let trace = trace_of nodes c.args.self.now in
    let index = c.index.result in
    let shown : Some c.unwrap.result ≡ variables_of trace index c.args.frame =
    sym c.unwrap.ensures
    ∙ c.in_ok-shown.ensures
    ∙ ap (λ (root : NodeId). variables_of (points nodes root.0) index c.args.frame) (ap (λ w. w.root) c.self.view_is) in
    IfOk-weaker c.part-2.result _ _
    (λ rows is.
    ap (λ (place : Option ℕ). option_map (filter (λ v. beq v.global c.args.globals))
    (option_and_then (λ i. variables_of trace i c.args.frame) place)) c.index.ensures.place
    ∙ part_there c.args.globals (variables_of trace index c.args.frame) c.unwrap.result rows shown is)
    c.part-2.ensures
