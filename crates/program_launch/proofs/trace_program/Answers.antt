use Rattle.std.proofs.Common.{◌≡◌, ℕ, List, ap, subst, ◌∙◌}
use Rattle.std.specs.Str.{chars}
use Rattle.std.specs.Rc.{rc_str_bytes}
use Rattle.call_sites.specs.Calls.{open_code_tree, call_of}
use Rattle.call_sites.specs.Rules.{rebased}
use Rattle.expansion_memo.specs.Reuse.{ComesTo}
use Rattle.program_world.specs.World.{ProgramState, program_world, first_world}
use Rattle.program_world.specs.States.{state_of}
use Rattle.program_launch.proofs.OpenCode.{machine, run_is_trace}
use Rattle.program_launch.proofs.trace_program.Goals as goal

pub returns-clause-points : goal.returns-clause-points
returns-clause-points g c =
    let path = c.args.path.0 in
    let text = chars (rc_str_bytes c.args.text.now) in
    let parm = chars c.args.parm.now in
    let members = g.P.Present.members c.args.present.now in
    let outcome = c.in_ok-outcome.outcome in
    let nodes = c.expand.new.arena.nodes in
    let state = state_of g.P.Present.members in
    let world = state c.expand.new.world in
    let given : chars (rc_str_bytes c.in_ok-clone.field-0) ≡ text = ap chars c.in_ok-clone.ensures.cases in
    let parted : chars (rc_str_bytes c.in_ok-clone-2.field-0) ≡ text = ap chars c.in_ok-clone-2.ensures.cases in
    let begun : state c.in_ok-world.world ≡ first_world text parm members =
    c.in_ok-world.ensures ∙ ap (λ t. first_world t parm members) parted in
    let from : (t : List ℕ) (s : ProgramState) → Type 0 = λ t s.
    ComesTo machine program_world rebased (λ item. item) (λ frames. frames) c.args.budget 0 (call_of (open_code_tree path t)) s world nodes outcome in
    run_is_trace c.runs_are_expansions.ensures path text parm members c.args.budget nodes world outcome
    (subst (λ s. from text s) begun (subst (λ t. from t (state c.in_ok-world.world)) given c.in_ok-outcome.ensures.comes))
