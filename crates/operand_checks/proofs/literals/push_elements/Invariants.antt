use Rattle.std.proofs.Common.{◌≡◌, ◌++◌, map, take}
use Rattle.constant_grammar.specs.Views.{element_of}
use Rattle.expression_notes.specs.Repeating.{once_behind}
use Rattle.operand_checks.specs.Literals.{said_of_elements}
use Rattle.operand_checks.specs.Settings.{setting_of}
use Rattle.operand_checks.proofs.literals.push_elements.Given as goal

-- what was said of the values so far
abbrev pub invariant-loop-element : goal.invariant-loop-element
invariant-loop-element l =
    l.rows.items ≡ l.initial.rows.items ++ once_behind l.initial.rows.items (said_of_elements (setting_of l.setting) (map element_of (take l.element-index l.elements)))
