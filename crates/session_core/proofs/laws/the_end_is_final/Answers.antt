use Rattle.session_core.proofs.MessageLaws.{message_ended}
use Rattle.session_core.proofs.laws.the_end_is_final.Goals as goal

pub returns : goal.returns
returns c = message_ended
