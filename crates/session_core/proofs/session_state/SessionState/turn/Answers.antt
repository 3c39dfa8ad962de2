use Rattle.session_core.proofs.ListLaws.{if_ok}
use Rattle.session_core.proofs.TurnLaws.{turn_whole}
use Rattle.session_core.proofs.session_state.SessionState.turn.Goals as goal

pub returns : goal.returns
returns g c = if_ok c.conclude.result (λ all waited. turn_whole _ _ _ _ _ c.in_ok-bodies.ensures waited) c.conclude.ensures
