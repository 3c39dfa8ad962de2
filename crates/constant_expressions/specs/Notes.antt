-- What is said of the expressions of an operand of DC or DS, or of a literal, from left to right: of its factor and its length,
-- which are absolute numbers, and of the values of A and Y constants (this project; HLASM Language Reference SC26-4940,
-- "Address constants"). An external symbol needs no definition, and addresses are checked as operands of instructions are.
use Rattle.std.specs.Prelude.{List, [], ◌++◌, flat_map, Option, Some, None}
use Rattle.trace_values.specs.declared.section.Reloc.{Reloc}
use Rattle.note_rows.specs.declared.row.Row.{Row}
use Rattle.constant_grammar.specs.Amounts.{Amount, decimal, computed}
use Rattle.constant_grammar.specs.Constants.{Constant}
use Rattle.constant_grammar.specs.Elements.{Element, expression, symbol, address_of}
use Rattle.constant_grammar.specs.Nominals.{Nominal, quoted, enclosed}
use Rattle.constant_operands.specs.Operands.{Operand}
use Rattle.expression_notes.specs.declared.values.Wanted.TheVariants as wanted
use Rattle.expression_notes.specs.Expressions.{said_of}
use Rattle.ordinary_symbols.specs.Known.{Knowledge}

-- of a number, if it is an expression
abbrev pub said_of_amount : Knowledge → Option Reloc → Option Amount → List Row
said_of_amount known here None = []
said_of_amount known here (Some (decimal n)) = []
said_of_amount known here (Some (computed tree)) = said_of known here wanted.Number tree

-- of a value
abbrev pub said_of_element : Knowledge → Option Reloc → Element → List Row
said_of_element known here (expression tree) = said_of known here wanted.Value tree
said_of_element known here (symbol name) = []
said_of_element known here (address_of displacement base) = []

-- of each value in turn
abbrev pub said_of_elements : Knowledge → Option Reloc → List Element → List Row
said_of_elements known here elements = flat_map (said_of_element known here) elements

-- of the values, if they stand in parentheses
abbrev pub said_of_nominal : Knowledge → Option Reloc → Option Nominal → List Row
said_of_nominal known here None = []
said_of_nominal known here (Some (quoted text)) = []
said_of_nominal known here (Some (enclosed elements)) = said_of_elements known here elements

abbrev pub said_of_constant : Knowledge → Option Reloc → Constant → List Row
said_of_constant known here one =
    (said_of_amount known here one.factor ++ said_of_amount known here one.length) ++ said_of_nominal known here one.nominal

-- of an operand; of one that was not read nothing is said here
abbrev pub said_by : Knowledge → Option Reloc → Option Constant → List Row
said_by known here None = []
said_by known here (Some one) = said_of_constant known here one

abbrev pub said_of_operand : Knowledge → Option Reloc → Operand → List Row
said_of_operand known here operand = said_by known here operand.constant
