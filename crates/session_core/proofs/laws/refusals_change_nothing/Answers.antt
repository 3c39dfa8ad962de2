use Rattle.session_core.proofs.MessageLaws.{message_kept}
use Rattle.session_core.proofs.laws.refusals_change_nothing.Goals as goal

pub returns : goal.returns
returns c = message_kept
