use Rattle.std.proofs.Common.{◌≡◌, length}
use Rattle.ordinary_symbols.specs.Shown.{table_of}
use Rattle.ordinary_symbols.specs.Table.{known}
use Rattle.using_statements.proofs.Fronts.{behind}
use Rattle.using_statements.specs.Values.{registers_of}
use Rattle.using_statements.specs.Views.{trees_of}
use Rattle.using_statements.proofs.registers.registers_of.Given as goal

-- the registers so far stand before those of the expressions that are left
abbrev pub invariant-loop-formulas : goal.invariant-loop-formulas
invariant-loop-formulas l =
    let known = known (table_of l.symbols) in
    behind l.registers.items (registers_of known l.here (trees_of l.formulas)) ≡ registers_of known l.here (trees_of l.initial.formulas)

abbrev pub decreases-loop-formulas : goal.decreases-loop-formulas
decreases-loop-formulas l = length l.formulas
