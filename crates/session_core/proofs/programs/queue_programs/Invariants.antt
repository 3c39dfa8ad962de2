use Rattle.session_core.proofs.ProgramLaws.{IsQueuing}
use Rattle.session_core.proofs.programs.queue_programs.Given as goal

-- the documents so far are queued, where they are wanted
abbrev pub invariant-loop-index : goal.invariant-loop-index
invariant-loop-index l = IsQueuing l.folders l.store.store l.initial.queue.items l.queue.items l.index
