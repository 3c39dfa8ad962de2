use Rattle.std.proofs.Common.{◌≡◌, ◌++◌, drop}
use Rattle.expression_notes.specs.Repeating.{once_behind}
use Rattle.operand_checks.specs.Machine.{said_of_operands}
use Rattle.operand_checks.specs.Settings.{setting_of}
use Rattle.operand_checks.proofs.machine.push_operands.Given as goal

-- what is said so far, and then what is said of the operands that are left
abbrev pub invariant-loop-text : goal.invariant-loop-text
invariant-loop-text l =
    l.rows.items ++ once_behind l.rows.items (said_of_operands (setting_of l.setting) l.targets l.places l.kinds (drop l.text-index l.texts))
    ≡ l.initial.rows.items ++ once_behind l.initial.rows.items (said_of_operands (setting_of l.setting) l.targets l.initial.places l.initial.kinds l.texts)
