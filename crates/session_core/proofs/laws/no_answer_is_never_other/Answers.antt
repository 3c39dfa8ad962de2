use Rattle.session_core.proofs.ShortLaws.{message_unanswered}
use Rattle.session_core.proofs.laws.no_answer_is_never_other.Goals as goal

pub returns : goal.returns
returns c = message_unanswered
