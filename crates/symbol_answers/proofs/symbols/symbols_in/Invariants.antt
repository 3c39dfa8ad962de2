use Rattle.std.proofs.Common.{◌≡◌, filter, map, take}
use Rattle.symbol_answers.specs.Answers.{stands_in, symbol_of}
use Rattle.symbol_answers.proofs.symbols.symbols_in.Given as goal

-- the symbols of the rows so far
abbrev pub invariant-loop-row : goal.invariant-loop-row
invariant-loop-row l = l.symbols ≡ map (symbol_of l.site.text) (filter (λ row. stands_in l.path.0 row.stack) (take l.row-index l.rows))
