use Rattle.session_core.proofs.TurnLaws.{concluded_whole}
use Rattle.session_core.proofs.session_state.SessionState.conclude.Goals as goal

pub returns : goal.returns
returns g c = concluded_whole _ _ _ _ _ c.in_ok-answers.ensures c.in_ok-append.ensures
