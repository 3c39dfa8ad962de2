use Rattle.std.proofs.Common.{◌≡◌, ◌++◌, ◌-◌, ◌≤◌}
use Rattle.ordinary_symbols.specs.Shown.{table_of}
use Rattle.program_names.specs.Symbols.{rows_between}
use Rattle.program_names.proofs.symbols.add_rows.Given as goal

-- the symbols so far are added
abbrev pub invariant-loop-at : goal.invariant-loop-at
invariant-loop-at l =
    (l.before ≤ l.at)
    × (l.at - l.before ≤ l.behind - l.before)
    × (l.rows ≡ l.initial.rows ++ rows_between (table_of l.symbols) l.stack l.before l.at)
