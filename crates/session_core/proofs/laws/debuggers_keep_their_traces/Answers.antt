use Rattle.session_core.proofs.DebuggerLaws.{message_keeps_trace, turn_keeps_trace}
use Rattle.session_core.proofs.laws.debuggers_keep_their_traces.Goals as goal

pub returns-clause-message : goal.returns-clause-message
returns-clause-message c = message_keeps_trace

pub returns-clause-turn : goal.returns-clause-turn
returns-clause-turn c = turn_keeps_trace
