use Rattle.std.proofs.Common.{◌≡◌, ◌++◌, ◌||◌, take}
use Rattle.std.specs.List.{list_any}
use Rattle.expression_notes.specs.Repeating.{once_behind}
use Rattle.ordinary_symbols.specs.Shown.{table_of}
use Rattle.ordinary_symbols.specs.Table.{known}
use Rattle.using_statements.specs.Said.{bad_left, is_bad, said_of_registers}
use Rattle.using_statements.specs.Views.{trees_of}
use Rattle.using_statements.proofs.saying.push_registers.Given as goal

-- what is said of the registers so far, and whether the statement cannot be read
abbrev pub invariant-loop-formula : goal.invariant-loop-formula
invariant-loop-formula l =
    let known = known (table_of l.symbols) in
    record {
      said : l.rows.items ≡ l.initial.rows.items ++ once_behind l.initial.rows.items
          (bad_left l.initial.is_bad (said_of_registers known l.here (trees_of (take l.formula-index l.formulas))));
      flag : l.is_bad ≡ (l.initial.is_bad || list_any is_bad (said_of_registers known l.here (trees_of (take l.formula-index l.formulas))));
    }
