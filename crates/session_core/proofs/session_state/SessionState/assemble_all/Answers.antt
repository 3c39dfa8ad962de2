use Rattle.session_core.proofs.TurnLaws.{turning_goes_on, turning_smaller, turning_told}
use Rattle.session_core.proofs.session_state.SessionState.assemble_all.Goals as goal

pub queue-smaller : goal.queue-smaller
queue-smaller g c = turning_smaller _ _ _ c.queue-test.ensures c.in_ok-more.ensures

pub queue-preserved : goal.queue-preserved
queue-preserved g c = turning_told _ _ _ _ c.in_ok-append.ensures (turning_goes_on _ _ _ _ _ c.queue.invariant c.queue-test.ensures c.in_ok-more.ensures)
