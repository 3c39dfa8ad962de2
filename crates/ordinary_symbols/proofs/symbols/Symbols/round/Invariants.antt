use Rattle.std.proofs.Common.{◌≡◌, false, length, take, drop}
use Rattle.ordinary_symbols.specs.Rounds.{tried_from, round}
use Rattle.ordinary_symbols.specs.Shown.{table_of}
use Rattle.ordinary_symbols.proofs.symbols.Symbols.round.Given as goal

abbrev pub invariant-loop-at : goal.invariant-loop-at
invariant-loop-at l = record {
  so_far : tried_from (take l.at (table_of l.self)) (drop l.at (table_of l.self)) ≡ round (table_of l.initial.self);
  as_long : length (table_of l.self) ≡ l.at-end;
  same : l.settled ≡ false → table_of l.self ≡ table_of l.initial.self;
}
