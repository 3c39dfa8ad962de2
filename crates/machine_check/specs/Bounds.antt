-- The values that operands of machine instructions may have: registers and masks, immediate values, lengths (z/Architecture
-- Principles of Operation SA22-7832, "Instruction formats"; this project's profile, which lets immediate values of 8 and of
-- 16 bits have either sign where an instruction takes one).
use Rattle.std.specs.Prelude.{◌&&◌, Bool, ℤ, pos, neg_ℤ, int_le, Option, Some, None}
use Rattle.instruction_table.specs.declared.encodings.Kind.{Kind}
use Rattle.instruction_table.specs.declared.encodings.Kind.TheVariants.{Register, FloatRegister, AccessRegister, ControlRegister, VectorRegister, Mask, Immediate4, Immediate8, Immediate8Signed, Immediate12, Immediate16, Immediate16Unsigned, Immediate32, Indexed, IndexedLong, VectorIndexed, Based, BasedLong, LengthTo256, LengthTo16, RegisterLength, Target}
use Rattle.machine_check.specs.declared.bounds.Bounds.{Bounds}

-- the values from one to another
abbrev pub between : ℤ → ℤ → Option Bounds
between least greatest = Some (record { least = least; greatest = greatest })

-- whether a value is one of these
abbrev pub contains : Bounds → ℤ → Bool
contains bounds value = int_le bounds.least value && int_le value bounds.greatest

-- what the value of an operand of this kind may be, or the length in it; nothing where it may be anything
abbrev pub allowed : Kind → Option Bounds
allowed Register = between (pos 0) (pos 15)
allowed FloatRegister = between (pos 0) (pos 15)
allowed AccessRegister = between (pos 0) (pos 15)
allowed ControlRegister = between (pos 0) (pos 15)
allowed VectorRegister = between (pos 0) (pos 31)
allowed Mask = between (pos 0) (pos 15)
allowed Immediate4 = between (pos 0) (pos 15)
allowed Immediate8 = between (pos 0) (pos 255)
allowed Immediate8Signed = between (neg_ℤ (pos 128)) (pos 255)
allowed Immediate12 = between (pos 0) (pos 4095)
allowed Immediate16 = between (neg_ℤ (pos 32768)) (pos 65535)
allowed Immediate16Unsigned = between (neg_ℤ (pos 32768)) (pos 65535)
allowed LengthTo256 = between (pos 0) (pos 256)
allowed LengthTo16 = between (pos 0) (pos 16)
allowed Immediate32 = None
allowed Indexed = None
allowed IndexedLong = None
allowed VectorIndexed = None
allowed Based = None
allowed BasedLong = None
allowed RegisterLength = None
allowed Target = None
