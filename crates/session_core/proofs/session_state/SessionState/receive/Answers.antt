use Rattle.json_view.specs.Texts.{reading}
use Rattle.session_core.proofs.OverLaws.{over_lost}
use Rattle.session_core.proofs.ShortLaws.{short_received}
use Rattle.session_core.proofs.session_state.SessionState.receive.Goals as goal

pub returns-in-Err-OutOfMemory : goal.returns-in-Err-OutOfMemory
returns-in-Err-OutOfMemory g c = over_lost _ _ _ _ _ (short_received c.args.self.now (reading c.args.body.now))
