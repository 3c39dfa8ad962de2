use Rattle.std.proofs.Common.{◌≡◌, ◌≤◌, drop, length}
use Rattle.debug_sessions.specs.Inside.{AreNumbered}
use Rattle.debug_sessions.proofs.numbering.set_breakpoints.Given as goal

-- those behind a place are set, and nothing else has changed
abbrev pub invariant-loop-left : goal.invariant-loop-left
invariant-loop-left l = record {
  rest : l.debug ≡ record l.fn.debug { breakpoints = l.debug.breakpoints };
  within : l.left ≤ length l.breakpoints;
  numbered : AreNumbered l.store.store.paths (drop l.left l.breakpoints) l.debug.breakpoints;
}

abbrev pub decreases-loop-left : goal.decreases-loop-left
decreases-loop-left l = l.left
