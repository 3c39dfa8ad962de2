-- What the program's values are (this project).
use Rattle.std.specs.Prelude.{option_map}
use Rattle.constant_grammar.specs.Views.{constant_of}
use Rattle.constant_operands.specs.declared.operand.ConstantOperand.{ConstantOperand}
use Rattle.constant_operands.specs.declared.measure.Measure as declared
use Rattle.constant_operands.specs.Operands.{Operand}
use Rattle.constant_operands.specs.Measures.{Measure}

abbrev pub operand_of : ConstantOperand → Operand
operand_of operand = record { used = operand.used; constant = option_map constant_of operand.constant }

abbrev pub measure_of : declared.Measure → Measure
measure_of measure = record { attr = measure.attr; extent = measure.extent; said = measure.said.items }
