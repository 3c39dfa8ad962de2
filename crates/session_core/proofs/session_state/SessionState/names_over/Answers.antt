use Rattle.std.proofs.Common.{ap, ◌∙◌}
use Rattle.std.proofs.lemmas.List.{take_all}
use Rattle.std.specs.List.{flat_map}
use Rattle.session_core.specs.Names.{names_at}
use Rattle.session_core.specs.State.{State, libraries, programs}
use Rattle.session_core.proofs.NameLaws.{names_all}
use Rattle.session_core.proofs.session_state.SessionState.names_over.Goals as goal

pub returns : goal.returns
returns g c =
    let s = c.args.self.now in
    let all = c.in_ok-programs.programs.items in
    names_all s c.deref.result.now all c.loop-path.names.items
    (c.deref.ensures.value ∙ c.self.invariant.folders_are ∙ ap libraries c.self.view_is)
    (c.in_ok-programs.ensures ∙ ap (λ (z : State). programs c.deref.result.now z.store) c.self.view_is)
    (c.loop-path.invariant ∙ ap (flat_map (names_at s)) (take_all c.loop-path.path-index c.deref-path-items.result.now c.loop-path-test.false ∙ c.deref-path-items.ensures.value))
