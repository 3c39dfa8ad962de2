use Rattle.std.proofs.Common.{◌≡◌, length, map}
use Rattle.std.specs.List.{fold}
use Rattle.defined_symbols.specs.Symbols.{name_in, with_symbol}
use Rattle.defined_symbols.proofs.symbols.DefinedSymbols.pass_line.Given as goal

-- those that are left come to the same
abbrev pub invariant-loop-one : goal.invariant-loop-one
invariant-loop-one l =
    fold with_symbol l.self (map name_in l.left.items) ≡ fold with_symbol l.initial.self (map name_in l.initial.left.items)

abbrev pub decreases-loop-one : goal.decreases-loop-one
decreases-loop-one l = length l.left.items
