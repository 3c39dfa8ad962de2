use Rattle.std.proofs.Common.{◌≡◌, ◌++◌, true, map}
use Rattle.std.specs.List.{filter}
use Rattle.trace_variables.specs.Seen.{seen, seen_entry, seen_symbols, is_among}
use Rattle.trace_variables.specs.Shown.{shown}
use Rattle.trace_variables.proofs.shown.show_globals.Given as goal

-- with those that are left, all values of the symbols are shown
abbrev pub invariant-loop-key : goal.invariant-loop-key
invariant-loop-key l =
    l.rows ++ map (shown true) (filter (is_among (seen_symbols l.symbols)) (map seen_entry l.key-iterator))
    ≡ l.initial.rows ++ map (shown true) (filter (is_among (seen_symbols l.symbols)) (seen l.values))
