use Rattle.std.proofs.Common.{◌≡◌, ◌++◌, map, take}
use Rattle.constant_grammar.specs.Views.{element_of}
use Rattle.expression_notes.specs.Repeating.{once_behind}
use Rattle.ordinary_symbols.specs.Shown.{table_of}
use Rattle.ordinary_symbols.specs.Table.{known}
use Rattle.constant_expressions.specs.Notes.{said_of_elements}
use Rattle.constant_expressions.proofs.notes.push_elements.Given as goal

-- what was said of the values so far
abbrev pub invariant-loop-element : goal.invariant-loop-element
invariant-loop-element l =
    l.rows.items ≡ l.initial.rows.items ++ once_behind l.initial.rows.items (said_of_elements (known (table_of l.symbols)) l.here (map element_of (take l.element-index l.elements)))
