use Rattle.std.proofs.Common.{◌≡◌, ◌++◌, ◌&&◌, length, map}
use Rattle.std.specs.List.{list_all}
use Rattle.constant_operands.specs.Views.{operand_of}
use Rattle.ordinary_symbols.specs.Shown as symbols
use Rattle.ordinary_symbols.specs.Table.{known}
use Rattle.section_table.specs.Shown as sections
use Rattle.section_steps.specs.Constants.{all_taken, said_of_all}
use Rattle.section_steps.specs.Legible.{is_legible}
use Rattle.section_steps.proofs.constants.place_operands.Given as goal

-- what there is so far, and then what there is of the operands that are left
abbrev pub invariant-loop-operands : goal.invariant-loop-operands
invariant-loop-operands l =
    let known = known (symbols.table_of l.symbols) in
    let table = sections.table_of l.sections in
    let table_first = sections.table_of l.initial.sections in
    let read = map operand_of l.operands in
    let read_first = map operand_of l.initial.operands in
    record {
      taken : all_taken known l.here read table ≡ all_taken known l.here read_first table_first;
      said : l.rows.items ++ said_of_all l.said known l.here read table
          ≡ l.initial.rows.items ++ said_of_all l.initial.said known l.here read_first table_first;
      legible : (l.legible && list_all (is_legible known l.here) read) ≡ list_all (is_legible known l.here) read_first;
    }

abbrev pub decreases-loop-operands : goal.decreases-loop-operands
decreases-loop-operands l = length l.operands
