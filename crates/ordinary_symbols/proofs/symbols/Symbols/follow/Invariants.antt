use Rattle.std.proofs.Common.{◌≡◌}
use Rattle.ordinary_symbols.specs.Rounds.{resolved}
use Rattle.ordinary_symbols.specs.Shown.{table_of}
use Rattle.ordinary_symbols.proofs.symbols.Symbols.follow.Given as goal

abbrev pub invariant-loop-tries : goal.invariant-loop-tries
invariant-loop-tries l = resolved (table_of l.self) ≡ resolved (table_of l.initial.self)

abbrev pub decreases-loop-tries : goal.decreases-loop-tries
decreases-loop-tries l = l.tries
