use Rattle.std.proofs.Common.{◌≡◌}
use Rattle.ordinary_symbols.specs.Rounds.{rounds, resolved}
use Rattle.ordinary_symbols.specs.Shown.{table_of}
use Rattle.ordinary_symbols.proofs.symbols.Symbols.finish.Given as goal

abbrev pub invariant-loop-left : goal.invariant-loop-left
invariant-loop-left l = rounds l.left (table_of l.self) ≡ resolved (table_of l.initial.self)

abbrev pub decreases-loop-left : goal.decreases-loop-left
decreases-loop-left l = l.left
