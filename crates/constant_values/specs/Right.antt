-- Whether one value is right for its type, how many bytes it takes, and whether it fits its length (HLASM Language Reference
-- SC26-4940, "Nominal value", "Length modifier"; which values are wrong, and which are too long, is this project's profile).
use Rattle.std.specs.Prelude.{ℕ, ◌==◌, ◌&&◌, Bool, true, false, not, List, length, nat_lt, Option, Some, None}
use Rattle.constant_table.specs.declared.constant_type.ConstantType.{ConstantType}
use Rattle.constant_table.specs.declared.constant_type.ValueKind.{ValueKind}
use Rattle.constant_table.specs.declared.constant_type.ValueKind.TheVariants as kind
use Rattle.constant_table.specs.Lengths.{length_of_value, length_without_value}
use Rattle.constant_table.specs.Types.{kind_of}
use Rattle.constant_grammar.specs.Digits.{count_in}
use Rattle.constant_values.specs.declared.class.Class.{Class}
use Rattle.constant_values.specs.declared.class.Class.TheVariants.{HexadecimalDigit, Bit}
use Rattle.constant_values.specs.Classes.{count_of}
use Rattle.constant_values.specs.Numbers.{is_number, fits}

-- a text that has a character, and all are of a class
abbrev pub is_made_of : Class → List ℕ → Bool
is_made_of class text = nat_lt 0 (length text) && (count_of class text == length text)

-- a value that is not empty, and has only characters that its kind has, and as it has them: decimal numbers may have a period,
-- integers have none
abbrev pub is_right : ValueKind → List ℕ → Bool
is_right kind.Text text = nat_lt 0 (length text)
is_right kind.HexadecimalDigits text = is_made_of HexadecimalDigit text
is_right kind.Bits text = is_made_of Bit text
is_right kind.Decimals text = is_number 1 text
is_right kind.Integers text = is_number 0 text
is_right kind.Expressions text = true
is_right kind.Symbols text = true
is_right kind.Addresses text = true
is_right kind.Floats text = true

-- how many bytes a value takes where no length is given
abbrev pub implied_bytes : ConstantType → List ℕ → ℕ
implied_bytes type text = length_of_value type (count_in (kind_of type) text)

-- how many bytes a binary number takes: as many as are given, or else as its type has
abbrev pub binary_bytes : ConstantType → Option ℕ → ℕ
binary_bytes type (Some bytes) = bytes
binary_bytes type None = length_without_value type

-- a value that takes more bytes than it is given
abbrev pub exceeds : ConstantType → Option ℕ → List ℕ → Bool
exceeds type (Some bytes) text = nat_lt bytes (implied_bytes type text)
exceeds type None text = false

-- of a kind: a binary number out of the range of its length, or a decimal one with more digits than its explicit length takes
abbrev pub is_long : ValueKind → ConstantType → Option ℕ → List ℕ → Bool
is_long kind.Integers type explicit text = is_number 0 text && not (fits (binary_bytes type explicit) text)
is_long kind.Decimals type explicit text = is_number 1 text && exceeds type explicit text
is_long kind.Text type explicit text = false
is_long kind.HexadecimalDigits type explicit text = false
is_long kind.Bits type explicit text = false
is_long kind.Expressions type explicit text = false
is_long kind.Symbols type explicit text = false
is_long kind.Addresses type explicit text = false
is_long kind.Floats type explicit text = false

-- whether a value that is right does not fit the length of the constant: the explicit one, or else that of the type
abbrev pub is_too_long : ConstantType → Option ℕ → List ℕ → Bool
is_too_long type explicit text = is_long (kind_of type) type explicit text
