use Rattle.std.proofs.Common.{sym, ◌∙◌}
use Rattle.session_core.proofs.ListLaws.{if_ok}
use Rattle.session_core.proofs.LaunchLaws.{debugged_active, debugged_passed}
use Rattle.session_core.proofs.session_state.SessionState.debugged.Goals as goal

pub returns-then-not-is_active : goal.returns-then-not-is_active
returns-then-not-is_active g c =
    debugged_passed c.args.self.now c.args.session c.args.message.now c.none.result (sym c.is_active.ensures ∙ c.if-not-is_active.true) c.none.ensures

pub returns : goal.returns
returns g c =
    if_ok c.read_debug.result (λ bodies step.
    debugged_active c.args.self.now c.read_debug.new.self c.args.session c.args.message.now bodies (sym c.is_active.ensures ∙ c.if-not-is_active.false) step)
    c.read_debug.ensures
