use Rattle.std.proofs.Common.{length}
use Rattle.session_core.proofs.TurnLaws.{IsTurning}
use Rattle.session_core.proofs.session_state.SessionState.assemble_all.Given as goal

-- what is written so far, and what is left, are all
abbrev pub invariant-queue : goal.invariant-queue
invariant-queue g l = IsTurning l.initial.self l.self l.bodies

abbrev pub decreases-queue : goal.decreases-queue
decreases-queue g l = length l.self.queue
