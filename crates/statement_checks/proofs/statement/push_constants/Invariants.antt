use Rattle.std.proofs.Common.{◌≡◌, ◌++◌, map, take}
use Rattle.constant_operands.specs.Views.{operand_of}
use Rattle.expression_notes.specs.Repeating.{once_behind}
use Rattle.operand_checks.specs.Settings.{setting_of}
use Rattle.statement_checks.specs.Statements.{said_of_constants}
use Rattle.statement_checks.proofs.statement.push_constants.Given as goal

-- what is said of the constants so far
abbrev pub invariant-loop-operand : goal.invariant-loop-operand
invariant-loop-operand l =
    l.rows.items ≡ l.initial.rows.items ++ once_behind l.initial.rows.items
    (said_of_constants (setting_of l.setting) (map operand_of (take l.operand-index l.operands)))
