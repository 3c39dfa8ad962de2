use Rattle.session_core.proofs.SettlingLaws.{IsLeaving}
use Rattle.session_core.proofs.session_state.SessionState.farewells.Given as goal

-- what is written so far, and what is left, are all
abbrev pub invariant-loop-index : goal.invariant-loop-index
invariant-loop-index l = IsLeaving l.self l.bodies l.index
