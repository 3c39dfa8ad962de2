use Rattle.std.proofs.Common.{◌≡◌, ◌++◌, map, take}
use Rattle.constant_operands.specs.Views.{operand_of}
use Rattle.expression_notes.specs.Repeating.{once_behind}
use Rattle.ordinary_symbols.specs.Shown.{table_of}
use Rattle.ordinary_symbols.specs.Table.{known}
use Rattle.section_layout.specs.Rows.{said_of_operands}
use Rattle.section_layout.proofs.rows.push_operands.Given as goal

-- what is said of the operands so far
abbrev pub invariant-loop-operand : goal.invariant-loop-operand
invariant-loop-operand l =
    l.rows.items ≡ l.initial.rows.items ++ once_behind l.initial.rows.items (said_of_operands (known (table_of l.symbols)) l.here
    (map operand_of (take l.operand-index l.operands)))
