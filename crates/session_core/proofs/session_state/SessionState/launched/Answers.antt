use Rattle.std.proofs.Common.{◌≡◌, Some, None, ap, ◌∙◌, subst}
use Rattle.debug_sessions.specs.Refusals.{program_wanted}
use Rattle.session_core.specs.Debugging.{program_trace}
use Rattle.session_core.specs.State.{State}
use Rattle.session_core.proofs.ListLaws.{if_ok}
use Rattle.session_core.proofs.LaunchLaws.{launched_found, launched_absent}
use Rattle.session_core.proofs.session_state.SessionState.launched.Goals as goal

pub returns-in-Some : goal.returns-in-Some
returns-in-Some g c =
    if_ok c.program_trace.result (λ trace is.
    launched_found c.args.self.now c.args.session c.args.read.now c.in-Some.path.now trace
    (subst (λ (z : State). Some c.in-Some.path.now ≡ program_wanted z.debuggers c.args.session c.args.read.now) c.self.view_is c.in-Some.ensures)
    (is ∙ ap (program_trace c.args.self.now) c.as_str.ensures.characters))
    c.program_trace.ensures

pub returns-in-None : goal.returns-in-None
returns-in-None g c =
    launched_absent c.args.self.now c.args.session c.args.read.now
    (subst (λ (z : State). None ≡ program_wanted z.debuggers c.args.session c.args.read.now) c.self.view_is c.in-None.ensures)
