use Rattle.trace_arena.specs.Slots.{nodes_of}
use Rattle.trace_arena.specs.Waiting.{nexts_of, work, Frees}
use Rattle.trace_arena.proofs.release.free_waiting.Given as goal

abbrev pub invariant-loop-queues : goal.invariant-loop-queues
invariant-loop-queues g l =
    Frees (nodes_of l.initial.slots.items) (nodes_of l.slots.items) (nexts_of l.slots.items) l.queues.waiting

abbrev pub decreases-loop-queues : goal.decreases-loop-queues
decreases-loop-queues g l = work (nodes_of l.slots.items)
