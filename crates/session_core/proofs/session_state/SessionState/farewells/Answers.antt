use Rattle.std.proofs.Common.{◌≡◌, [], Some, drop, slice_get, subst}
use Rattle.document_store.specs.Shown.{IsShown}
use Rattle.session_core.specs.State.{State}
use Rattle.session_core.proofs.ProgramLaws.{nothing_behind}
use Rattle.session_core.proofs.SettlingLaws.{leaving_goes_on, leaving_ends}
use Rattle.session_core.proofs.session_state.SessionState.farewells.Goals as goal

pub returns-in_default : goal.returns-in_default
returns-in_default c =
    let i = c.loop-index.index in
    leaving_ends c.args.self.now c.loop-index.bodies i c.loop-index.invariant
    (subst (λ (z : State). drop i z.store.documents ≡ []) c.self.view_is (nothing_behind c.self.inside.store.store i c.in_default.ensures))

pub loop-index-preserved : goal.loop-index-preserved
loop-index-preserved c =
    let i = c.loop-index.index in
    leaving_goes_on c.args.self.now c.loop-index.bodies c.leave.new.bodies i c.in-Some.document c.loop-index.invariant
    (subst (λ (z : State). IsShown z.store.paths (slice_get z.store.documents i) (Some c.in-Some.document))
    c.self.view_is c.in-Some.ensures)
    c.in_ok-leave.ensures
