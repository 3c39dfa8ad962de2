use Rattle.session_core.proofs.DebuggerLaws.{message_keeps, turn_keeps}
use Rattle.session_core.proofs.laws.debuggers_change_by_their_messages.Goals as goal

pub returns-clause-message : goal.returns-clause-message
returns-clause-message c = message_keeps

pub returns-clause-turn : goal.returns-clause-turn
returns-clause-turn c = turn_keeps
