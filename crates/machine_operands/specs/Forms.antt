-- How the operands of machine instructions are written, by their kinds (HLASM Language Reference SC26-4940, "Operand entries",
-- "Addresses"; z/Architecture Principles of Operation SA22-7832, "Instruction formats").
use Rattle.std.specs.Prelude.{Bool, true, false}
use Rattle.instruction_table.specs.declared.encodings.Kind.{Kind}
use Rattle.instruction_table.specs.declared.encodings.Kind.TheVariants as kind
use Rattle.machine_operands.specs.declared.form.AddressForm.{AddressForm}
use Rattle.machine_operands.specs.declared.form.AddressForm.TheVariants.{Based, Indexed, Counted}
use Rattle.machine_operands.specs.declared.form.OperandForm.{OperandForm}
use Rattle.machine_operands.specs.declared.form.OperandForm.TheVariants.{Value, Target, Address}

-- registers, masks and immediate values are expressions, and so are targets; all else is an address
abbrev pub form_of : Kind → OperandForm
form_of kind.Register = Value
form_of kind.FloatRegister = Value
form_of kind.AccessRegister = Value
form_of kind.ControlRegister = Value
form_of kind.VectorRegister = Value
form_of kind.Mask = Value
form_of kind.Immediate4 = Value
form_of kind.Immediate8 = Value
form_of kind.Immediate8Signed = Value
form_of kind.Immediate12 = Value
form_of kind.Immediate16 = Value
form_of kind.Immediate16Unsigned = Value
form_of kind.Immediate32 = Value
form_of kind.Target = Target
form_of kind.Based = Address Based
form_of kind.BasedLong = Address Based
form_of kind.Indexed = Address Indexed
form_of kind.IndexedLong = Address Indexed
form_of kind.VectorIndexed = Address Indexed
form_of kind.LengthTo256 = Address Indexed
form_of kind.LengthTo16 = Address Indexed
form_of kind.RegisterLength = Address Counted

-- whether something must stand in parentheses behind the displacement
abbrev pub needs_parts : AddressForm → Bool
needs_parts Based = false
needs_parts Indexed = false
needs_parts Counted = true

-- whether two expressions may stand there
abbrev pub has_two : AddressForm → Bool
has_two Based = false
has_two Indexed = true
has_two Counted = true

-- whether the first of two may be left away
abbrev pub may_omit_first : AddressForm → Bool
may_omit_first Based = false
may_omit_first Indexed = true
may_omit_first Counted = false
