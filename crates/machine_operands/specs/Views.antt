-- What the program's operands are as they are written (this project).
use Rattle.std.specs.Prelude.{ℕ, Result, Ok, Err, option_map}
use Rattle.constant_grammar.specs.Views.{tree_in, tree_if}
use Rattle.expression_grammar.specs.Readings.{Front}
use Rattle.expression_grammar.specs.Trees.{Tree}
use Rattle.constant_operands.specs.Views as constants
use Rattle.machine_operands.specs.declared.operand.Address as address
use Rattle.machine_operands.specs.declared.operand.Displacement as displacement
use Rattle.machine_operands.specs.declared.operand.Displacement.TheVariants as variants
use Rattle.machine_operands.specs.declared.operand.MachineOperand as operand
use Rattle.machine_operands.specs.declared.operand.Written as written
use Rattle.machine_operands.specs.declared.operand.Written.TheVariants as forms
use Rattle.machine_operands.specs.declared.parts.AddressParts as declared
use Rattle.machine_operands.specs.declared.parts.PartsReading as parts_reading
use Rattle.machine_operands.specs.declared.parts.PartsReading.TheVariants as some_parts
use Rattle.machine_operands.specs.declared.reading.FrontReading as front_reading
use Rattle.machine_operands.specs.declared.reading.FrontReading.TheVariants as some_front
use Rattle.machine_operands.specs.declared.reading.Reading as reading
use Rattle.machine_operands.specs.declared.reading.Reading.TheVariants as some
use Rattle.machine_operands.specs.Operands as spec
use Rattle.machine_operands.specs.Parts.{Parts}

-- what is read of an expression: its tree, or how far it can be read
abbrev pub reading_of : reading.Reading → Result Tree ℕ
reading_of (some.Tree formula) = Ok (tree_in formula)
reading_of (some.At at) = Err at

abbrev pub front_reading_of : front_reading.FrontReading → Result Front ℕ
front_reading_of (some_front.Tree formula before) = Ok (record { tree = tree_in formula; before = before })
front_reading_of (some_front.At at) = Err at

abbrev pub parts_of : declared.AddressParts → Parts
parts_of parts = record { first = tree_if parts.first; base = tree_if parts.base }

abbrev pub parts_reading_of : parts_reading.PartsReading → Result Parts ℕ
parts_reading_of (some_parts.Parts parts) = Ok (parts_of parts)
parts_reading_of (some_parts.At at) = Err at

abbrev pub displacement_of : displacement.Displacement → spec.Displacement
displacement_of (variants.Expression formula) = spec.expression (tree_in formula)
displacement_of variants.Literal = spec.literal_place

abbrev pub address_of : address.Address → spec.Address
address_of one = record {
  displacement = displacement_of one.displacement;
  first = tree_if one.first;
  base = tree_if one.base;
}

abbrev pub written_of : written.Written → spec.Written
written_of (forms.Value formula) = spec.value (tree_in formula)
written_of (forms.Address one) = spec.address (address_of one)
written_of forms.LiteralTarget = spec.literal_target
written_of forms.NoLiteral = spec.no_literal
written_of (forms.Wrong count) = spec.wrong count

abbrev pub machine_operand_of : operand.MachineOperand → spec.Operand
machine_operand_of one = record { literal = option_map (λ literal. constants.operand_of literal.value) one.literal; written = written_of one.written }
