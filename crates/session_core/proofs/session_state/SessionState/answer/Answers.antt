use Rattle.session_core.proofs.OverLaws.{over_refused}
use Rattle.session_core.proofs.session_state.SessionState.answer.Goals as goal

pub returns-in-Err : goal.returns-in-Err
returns-in-Err g c = λ wanted reads.
    over_refused c.args.self.now c.refuse.new.self c.in-Err.refusal c.args.told wanted c.refuse.result _ _ c.in-Err.is reads c.refuse.ensures
