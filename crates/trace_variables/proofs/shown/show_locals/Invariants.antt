use Rattle.std.proofs.Common.{◌≡◌, ◌++◌, false, map}
use Rattle.trace_variables.specs.Seen.{seen, seen_entry}
use Rattle.trace_variables.specs.Shown.{shown}
use Rattle.trace_variables.proofs.shown.show_locals.Given as goal

-- with the values that are left, all are shown
abbrev pub invariant-loop-key : goal.invariant-loop-key
invariant-loop-key l =
    l.rows ++ map (shown false) (map seen_entry l.key-iterator) ≡ l.initial.rows ++ map (shown false) (seen l.values)
