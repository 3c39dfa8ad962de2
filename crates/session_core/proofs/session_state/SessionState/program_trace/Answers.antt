use Rattle.std.proofs.Common.{◌≡◌, Some, None, subst}
use Rattle.std.specs.Str.{chars}
use Rattle.document_store.specs.Store.{number_of}
use Rattle.session_core.specs.State.{State}
use Rattle.session_core.proofs.ListLaws.{if_ok}
use Rattle.session_core.proofs.LaunchLaws.{program_found, program_absent}
use Rattle.session_core.proofs.session_state.SessionState.program_trace.Goals as goal

pub returns-in-Some : goal.returns-in-Some
returns-in-Some g c =
    let path = chars c.args.path.now in
    if_ok c.launched_at.result (λ trace is.
    program_found c.args.self.now path c.in-Some.number trace
    (subst (λ (z : State). Some c.in-Some.number.0 ≡ number_of z.store.paths path) c.self.view_is c.in-Some.ensures) is)
    c.launched_at.ensures

pub returns-in-None : goal.returns-in-None
returns-in-None g c =
    let path = chars c.args.path.now in
    program_absent c.args.self.now path (subst (λ (z : State). None ≡ number_of z.store.paths path) c.self.view_is c.in-None.ensures)
