use Rattle.std.proofs.Common.{◌≡◌, take}
use Rattle.trace_values.proofs.symbol_row.SymbolRows.copy.Given as goal

-- the symbols so far are copied
abbrev pub invariant-loop-row : goal.invariant-loop-row
invariant-loop-row l = l.rows.items ≡ take l.row-index l.row-items
