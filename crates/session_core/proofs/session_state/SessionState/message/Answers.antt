use Rattle.std.proofs.Common.{sym, ◌∙◌}
use Rattle.library_reading.proofs.AskedLaws.{is_failure}
use Rattle.session_core.proofs.OverLaws.{over_ended, over_cut, over_served}
use Rattle.session_core.proofs.session_state.SessionState.message.Goals as goal

pub returns-then-is_ended : goal.returns-then-is_ended
returns-then-is_ended g c = over_ended _ _ _ _ _ (sym c.is_ended.ensures ∙ c.if-is_ended.true) c.none.ensures

pub returns-in_err-bodies : goal.returns-in_err-bodies
returns-in_err-bodies g c =
    over_cut _ _ _ _ _ _ _ _ _ _ (sym c.is_ended.ensures ∙ c.if-is_ended.false) c.in_err-bodies.ensures (is_failure _ _ c.from_residual.ensures.1)

pub returns : goal.returns
returns g c = over_served _ _ _ _ _ _ _ _ _ _ (sym c.is_ended.ensures ∙ c.if-is_ended.false) c.in_ok-bodies.ensures c.conclude.ensures
