-- What the program's values are (this project).
use Rattle.std.specs.Prelude.{map}
use Rattle.std.specs.Option.{option_map}
use Rattle.constant_grammar.specs.Views.{tree_in}
use Rattle.constant_operands.specs.Views.{operand_of}
use Rattle.literal_places.specs.Shown.{literals_of}
use Rattle.ordinary_symbols.specs.Shown as symbols
use Rattle.section_table.specs.Shown as sections
use Rattle.section_steps.specs.declared.states.Laid as laid
use Rattle.section_steps.specs.declared.states.Left as declared
use Rattle.section_steps.specs.declared.states.Left.TheVariants as left
use Rattle.section_steps.specs.declared.states.State as state
use Rattle.section_steps.specs.States as spec

abbrev pub state_of : state.State → spec.State
state_of one = record {
  sections = sections.table_of one.sections;
  symbols = symbols.table_of one.symbols;
  literals = literals_of one.literals;
  externals = one.externals;
}

abbrev pub left_of : declared.Left → spec.Left
left_of left.Nothing = spec.Nothing
left_of (left.Operands operands) = spec.Operands (map operand_of operands.items)
left_of (left.Names names) = spec.Names names.items
left_of (left.Expression formula) = spec.Expression (tree_in formula)
left_of (left.Equated symbol length) = spec.Equated symbol (option_map tree_in length)

abbrev pub laid_of : laid.Laid → spec.Laid
laid_of one = record {
  place = one.place;
  bytes = one.bytes;
  here = one.here;
  uses = one.uses.items;
  said = one.said.items;
  said_of_symbols = one.said_of_symbols.items;
  left = left_of one.left;
}
