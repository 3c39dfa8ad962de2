-- What the factor and the length of an operand come to by what is known where it stands (HLASM Language Reference SC26-4940,
-- "Duplication factor", "Length modifier"): an absolute number, another value or none, or nothing yet, where a symbol of the
-- expression has no value.
use Rattle.std.specs.Prelude.{Option, Some, None, Result, Ok, Err, is_some, ℤ, if◌then◌else◌}
use Rattle.trace_values.specs.declared.section.Reloc.{Reloc}
use Rattle.trace_values.specs.declared.section.SectionId.{SectionId}
use Rattle.expression_grammar.specs.Trees.{Tree}
use Rattle.constant_grammar.specs.Amounts.{Amount, decimal, computed}
use Rattle.constant_grammar.specs.Constants.{Constant}
use Rattle.constant_operands.specs.declared.number.Told.{Told}
use Rattle.constant_operands.specs.declared.number.Told.TheVariants.{Absolute, Other, Unknown}
use Rattle.constant_operands.specs.declared.number.ToldNumbers.{ToldNumbers}
use Rattle.constant_operands.specs.Operands.{Operand}
use Rattle.ordinary_symbols.specs.declared.fault.EvalFault.{EvalFault}
use Rattle.ordinary_symbols.specs.Known.{Knowledge, first_unknown}
use Rattle.ordinary_symbols.specs.Values.{value}

-- a number in no section is absolute
abbrev pub told_in : Option SectionId → ℤ → Told
told_in None n = Absolute n
told_in (Some section) n = Other

abbrev pub told_value : Result Reloc EvalFault → Told
told_value (Ok found) = told_in found.section found.value
told_value (Err fault) = Other

-- what an expression comes to at a place
abbrev pub told : Knowledge → Option Reloc → Tree → Told
told known here tree = if is_some (first_unknown known tree) then Unknown else told_value (value known here tree)

-- what a number comes to; of one that is no expression nothing is asked
abbrev pub told_amount : Knowledge → Option Reloc → Option Amount → Told
told_amount known here None = Other
told_amount known here (Some (decimal n)) = Other
told_amount known here (Some (computed tree)) = told known here tree

abbrev pub told_constant : Knowledge → Option Reloc → Constant → ToldNumbers
told_constant known here one = record { factor = told_amount known here one.factor; length = told_amount known here one.length }

-- the numbers of an operand
abbrev pub told_by : Knowledge → Option Reloc → Option Constant → ToldNumbers
told_by known here None = record { factor = Other; length = Other }
told_by known here (Some one) = told_constant known here one

abbrev pub told_numbers : Knowledge → Option Reloc → Operand → ToldNumbers
told_numbers known here operand = told_by known here operand.constant
