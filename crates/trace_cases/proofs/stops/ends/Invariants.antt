use Rattle.macro_debugger.specs.Walks.{HasTrace}
use Rattle.trace_cases.proofs.stops.ends.Given as goal

-- the trace of the walk stays
abbrev pub invariant-loop-rule : goal.invariant-loop-rule
invariant-loop-rule l = HasTrace l.arena.nodes l.walk
