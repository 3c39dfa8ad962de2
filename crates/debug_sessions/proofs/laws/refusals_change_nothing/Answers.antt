use Rattle.debug_sessions.proofs.LawLemmas as lemmas
use Rattle.debug_sessions.proofs.laws.refusals_change_nothing.Goals as goal

pub returns : goal.returns
returns c = lemmas.refusals_change_nothing
