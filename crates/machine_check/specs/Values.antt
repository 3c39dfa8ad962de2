-- What is said of the value of an operand of a machine instruction (this project): of an expression without a value, of a
-- value that is relocatable where a number is needed, and of one that is out of range.
use Rattle.std.specs.Prelude.{ℤ, Option, Some, None, Result, Ok, Err, if◌then◌else◌}
use Rattle.trace_values.specs.declared.section.SectionId.{SectionId}
use Rattle.trace_values.specs.declared.section.Reloc.{Reloc}
use Rattle.note_rows.specs.declared.row.Row.{Row}
use Rattle.note_rows.specs.declared.row.Row.TheVariants.{NotSimple, BadRegister, BadVectorRegister, BadImmediate, BadLength}
use Rattle.instruction_table.specs.declared.encodings.Kind.{Kind}
use Rattle.instruction_table.specs.declared.encodings.Kind.TheVariants.{Register, FloatRegister, AccessRegister, ControlRegister, VectorRegister, Mask, LengthTo256, LengthTo16}
use Rattle.machine_check.specs.declared.bounds.Bounds.{Bounds}
use Rattle.machine_check.specs.Bounds.{allowed, contains}

-- what is said of a value that an operand of this kind may not have
abbrev pub refusal : Kind → Row
refusal Register = BadRegister
refusal FloatRegister = BadRegister
refusal AccessRegister = BadRegister
refusal ControlRegister = BadRegister
refusal Mask = BadRegister
refusal VectorRegister = BadVectorRegister
refusal LengthTo256 = BadLength
refusal LengthTo16 = BadLength
refusal other = BadImmediate

-- what is said of a number that is to be one of these, and is refused so
abbrev pub said_of_number : Option Bounds → Row → ℤ → Option Row
said_of_number None refused n = None
said_of_number (Some bounds) refused n = if contains bounds n then None else Some refused

-- what is said of a value that is to be a number, and not relocatable
abbrev pub said_of_absolute : Option Bounds → Row → Option SectionId → ℤ → Option Row
said_of_absolute among refused (Some section) n = Some NotSimple
said_of_absolute among refused None n = said_of_number among refused n

-- what is said of a register, a mask, an immediate value or a length: where its expression has no value, what is said of
-- that
abbrev pub said_of_value : Kind → Result Reloc Row → Option Row
said_of_value kind (Err said) = Some said
said_of_value kind (Ok value) = said_of_absolute (allowed kind) (refusal kind) value.section value.value
