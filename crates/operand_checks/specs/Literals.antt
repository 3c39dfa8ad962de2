-- What is said of the addresses in S constants (HLASM Language Reference SC26-4940, "Address constants"; this project): they are
-- checked as addresses in operands are that have a base and no index.
use Rattle.std.specs.Prelude.{List, [], ◌++◌, flat_map, Option, Some, None, is_some}
use Rattle.constant_grammar.specs.Constants.{Constant}
use Rattle.constant_grammar.specs.Elements.{Element, expression, symbol, address_of}
use Rattle.constant_grammar.specs.Nominals.{Nominal, quoted, enclosed}
use Rattle.constant_operands.specs.Operands.{Operand}
use Rattle.expression_grammar.specs.Trees.{Tree}
use Rattle.instruction_table.specs.declared.encodings.Kind.TheVariants.{Based, Register}
use Rattle.note_rows.specs.declared.row.Row.{Row}
use Rattle.trace_values.specs.declared.section.Reloc.{Reloc}
use Rattle.operand_checks.specs.Addresses.{said_of_displacement}
use Rattle.operand_checks.specs.Expressions.{said_of_part}
use Rattle.operand_checks.specs.Settings.{Setting}

-- of a displacement with a base or without
abbrev pub said_of_front : Setting → Tree → Option Tree → List Row
said_of_front setting displacement base = said_of_displacement setting Based (is_some base) displacement

-- of it and its base
abbrev pub said_of_based : Setting → Tree → Option Tree → List Row
said_of_based setting displacement base = said_of_front setting displacement base ++ said_of_part setting Register base

-- of a value that is an address
unfoldable pub said_of_element : Setting → Element → List Row
said_of_element setting (expression tree) = []
said_of_element setting (symbol name) = []
said_of_element setting (address_of displacement base) = said_of_based setting displacement base

-- of each value in turn
abbrev pub said_of_elements : Setting → List Element → List Row
said_of_elements setting elements = flat_map (said_of_element setting) elements

-- of the values of a constant
abbrev pub said_of_nominal : Setting → Option Nominal → List Row
said_of_nominal setting None = []
said_of_nominal setting (Some (quoted text)) = []
said_of_nominal setting (Some (enclosed elements)) = said_of_elements setting elements

abbrev pub said_of_constant : Setting → Option Constant → List Row
said_of_constant setting None = []
said_of_constant setting (Some one) = said_of_nominal setting one.nominal

-- of the addresses in an operand of DC or DS, or in a literal
unfoldable pub said_of_addresses : Setting → Operand → List Row
said_of_addresses setting operand = said_of_constant setting operand.constant

-- of those in a literal that has a place
abbrev pub said_within : Setting → Option Reloc → Option Operand → List Row
said_within setting None literal = []
said_within setting (Some place) None = []
said_within setting (Some place) (Some literal) = said_of_addresses setting literal
