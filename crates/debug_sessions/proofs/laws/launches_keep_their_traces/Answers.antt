use Rattle.debug_sessions.proofs.TraceLemmas as lemmas
use Rattle.debug_sessions.proofs.laws.launches_keep_their_traces.Goals as goal

pub returns : goal.returns
returns c = lemmas.launches_keep_their_traces
