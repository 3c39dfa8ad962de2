use Rattle.session_core.proofs.session_state.SessionState.queue_all.Goals as goal

pub queue_programs-requires : goal.queue_programs-requires
queue_programs-requires c = record { few = c.self.invariant.sound.few }
