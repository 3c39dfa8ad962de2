use Rattle.std.proofs.Common.{◌∙◌, ap, sym}
use Rattle.waiting_requests.specs.Requests.{waits}
use Rattle.session_core.specs.State.{State}
use Rattle.session_core.proofs.EventLaws.{first_asked}
use Rattle.session_core.proofs.ListLaws.{if_ok}
use Rattle.session_core.proofs.session_state.SessionState.initialize.Goals as goal

pub returns-else-waits : goal.returns-else-waits
returns-else-waits c =
    if_ok c.begin.result (λ bodies step.
    first_asked c.args.self.now c.begin.new.self c.args.id c.args.root bodies
    (ap (λ (z : State). z.stage) (sym c.self.view_is) ∙ c.in-Fresh.is)
    (ap (λ (z : State). waits z.waiting c.args.id) (sym c.self.view_is) ∙ sym c.waits.ensures ∙ c.if-waits.false) step)
    c.begin.ensures
