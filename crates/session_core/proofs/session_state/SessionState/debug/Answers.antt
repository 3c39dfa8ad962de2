use Rattle.std.proofs.Common.{ap, sym, ◌∙◌, subst}
use Rattle.session_core.specs.Debugging.{launched_by, debugged}
use Rattle.session_core.specs.State.{State}
use Rattle.session_core.specs.Step.{IsEffect}
use Rattle.session_core.proofs.ListLaws.{if_ok}
use Rattle.session_core.proofs.LaunchLaws.{reads_itself, debug_outcome}
use Rattle.session_core.proofs.session_state.SessionState.debug.Goals as goal

pub returns : goal.returns
returns g c =
    let fields = c.self.inside in
    let s : State = record { stage = fields.stage; root = fields.root; budget = fields.budget; configuration = fields.configuration; store = fields.store.store; queue = fields.queue.items; published = fields.published.items; debuggers = fields.debuggers; waiting = fields.waiting } in
    if_ok c.said_bodies.result (λ bodies told.
    subst (λ z. IsEffect (debugged z c.args.session c.args.read) (record s { debuggers = c.answer.new.self }) bodies) c.self.view_is
    (debug_outcome s c.args.session c.args.read c.in_ok-launched.launched c.answer.new.self c.in_ok-said.said bodies
    (c.in_ok-launched.ensures ∙ ap (λ (z : State). launched_by z c.args.session c.args.read) (sym c.self.view_is))
    (c.in_ok-said.ensures.answer c.args.read (reads_itself c.args.read)) told)) c.said_bodies.ensures
