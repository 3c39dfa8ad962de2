use Rattle.session_core.proofs.CallLaws.{message_leaves}
use Rattle.session_core.proofs.laws.only_messages_on_files_ask.Goals as goal

pub returns : goal.returns
returns c = message_leaves
