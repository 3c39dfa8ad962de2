use Rattle.std.proofs.Common.{◌≡◌, ◌++◌, length, map}
use Rattle.constant_operands.specs.Views.{operand_of}
use Rattle.ordinary_symbols.specs.Shown.{table_of}
use Rattle.ordinary_symbols.specs.Table.{known}
use Rattle.section_steps.specs.Constants.{all_legible}
use Rattle.section_steps.proofs.constants.sift.Given as goal

-- those so far, and then those of the operands that are left
abbrev pub invariant-loop-operand : goal.invariant-loop-operand
invariant-loop-operand l =
    let known = known (table_of l.symbols) in
    map operand_of l.found.items ++ all_legible known l.here (map operand_of l.left.items)
    ≡ map operand_of l.initial.found.items ++ all_legible known l.here (map operand_of l.initial.left.items)

abbrev pub decreases-loop-operand : goal.decreases-loop-operand
decreases-loop-operand l = length l.left.items
