use Rattle.std.proofs.Common.{◌≡◌, ℕ, List, refl, ap, ◌∙◌, subst}
use Rattle.std.specs.Str.{chars}
use Rattle.std.specs.Rc.{rc_str_bytes}
use Rattle.expansion_memo.specs.Reuse.{ComesTo}
use Rattle.program_world.specs.World.{ProgramState, program_world, first_world}
use Rattle.program_world.specs.States.{state_of}
use Rattle.call_sites.specs.Calls.{open_code_tree}
use Rattle.program_assembly.proofs.report.report_of.Goals as goal

pub returns-clause-report : goal.returns-clause-report
returns-clause-report g c =
    let M = g.M.AskMachine in
    let path = c.args.path.0 in
    let text = chars (rc_str_bytes c.args.text.now) in
    let parm = chars c.args.parm.now in
    let outcome = c.in_ok-outcome.outcome in
    let nodes = c.expand.new.arena.nodes in
    let state = state_of g.P.Present.members in
    let world = state c.expand.new.world in
    let given : chars (rc_str_bytes c.in_ok-clone.field-0) ≡ text = ap chars c.in_ok-clone.ensures.cases in
    let parted : chars (rc_str_bytes c.in_ok-clone-2.field-0) ≡ text = ap chars c.in_ok-clone-2.ensures.cases in
    let begun : state c.in_ok-world.world ≡ first_world text parm (g.P.Present.members c.args.present.now) =
    c.in_ok-world.ensures ∙ ap (λ t. first_world t parm (g.P.Present.members c.args.present.now)) parted in
    let from : (t : List ℕ) (s : ProgramState) → Type 0 = λ t s.
    ComesTo M.model program_world M.rebased M.item_of M.frames_of c.args.budget 0 (M.call_of (open_code_tree path t)) s world nodes outcome in
    record {
      world = world;
      outcome = outcome;
      comes = subst (λ s. from text s) begun (subst (λ t. from t (state c.in_ok-world.world)) given c.in_ok-outcome.ensures.comes);
      root_is = refl;
      notes_are = c.in_ok-notes_of.ensures text c.requires.columns c.requires.last;
    }
