use Rattle.std.proofs.Common.{refl, subst}
use Rattle.session_core.specs.SessionView.{SessionView}
use Rattle.session_core.specs.Inside.{HearsOver}
use Rattle.session_core.specs.Message.{event}
use Rattle.session_core.proofs.OverLaws.{hears_written}
use Rattle.session_core.proofs.session.Session.add_message.Goals as goal

pub returns-clause-heard : goal.returns-clause-heard
returns-clause-heard g c =
    let fields = c.self.inside in
    let body = c.args.body.now in
    let old = c.args.library.now in
    let new = c.message.new.library in
    let calls = g.B.Library.calls in
    let faults = g.B.Library.faults in
    let before : SessionView = record { state = fields.session_state; output = fields.output.items; spent = fields.spent } in
    let after : SessionView = record { state = c.message.new.self; output = c.write_to.new.output.items; spent = fields.spent } in
    subst (λ (z : SessionView). HearsOver (event z.state body) c.write_to.result (calls old) (calls new) z after) c.self.view_is
    (hears_written (event before.state body) c.in_ok-bodies.bodies c.write_to.result (calls old) (calls new) (faults old) (faults new)
    before after c.in_ok-bodies.ensures c.write_to.ensures.ok c.write_to.ensures.err refl)
