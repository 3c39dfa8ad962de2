use Rattle.std.proofs.Common.{◌≡◌, ◌++◌, length}
use Rattle.expression_notes.specs.Expressions.{undefined}
use Rattle.expression_notes.specs.Repeating.{once_behind}
use Rattle.ordinary_symbols.specs.Shown.{table_of}
use Rattle.ordinary_symbols.specs.Table.{known}
use Rattle.section_layout.proofs.rows.push_names.Given as goal

-- what is said so far, and then what is said of the names that are left
abbrev pub invariant-loop-names : goal.invariant-loop-names
invariant-loop-names l =
    let known = known (table_of l.symbols) in
    l.rows.items ++ once_behind l.rows.items (undefined known l.names)
    ≡ l.initial.rows.items ++ once_behind l.initial.rows.items (undefined known l.initial.names)

abbrev pub decreases-loop-names : goal.decreases-loop-names
decreases-loop-names l = length l.names
