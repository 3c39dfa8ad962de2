-- How long constants are in bytes, and on which boundary they stand. HLASM Language Reference SC26-4940, "DC instruction"
-- and "Length modifier"; the bounds of explicit lengths are this project's profile.
use Rattle.std.specs.Prelude.{ℕ, ◌+◌, ◌/◌, Option, Some, None}
use Rattle.constant_table.specs.declared.constant_type.ConstantType.{ConstantType}
use Rattle.constant_table.specs.declared.constant_type.ConstantType.TheVariants.{Character, Hexadecimal, Binary, Packed, Zoned, Fullword, Halfword, Doubleword, Address, LongAddress, ShortAddress, ExternalAddress, BasedAddress, LongFloat, ShortFloat, ExtendedFloat}
use Rattle.constant_table.specs.declared.lengths.Purpose.{Purpose}
use Rattle.constant_table.specs.declared.lengths.Purpose.TheVariants.{Constant, Storage}

-- the length without explicit length and value
abbrev pub length_without_value : ConstantType → ℕ
length_without_value Character = 1
length_without_value Hexadecimal = 1
length_without_value Binary = 1
length_without_value Packed = 1
length_without_value Zoned = 1
length_without_value Fullword = 4
length_without_value Halfword = 2
length_without_value Doubleword = 8
length_without_value Address = 4
length_without_value LongAddress = 8
length_without_value ShortAddress = 2
length_without_value ExternalAddress = 4
length_without_value BasedAddress = 2
length_without_value LongFloat = 8
length_without_value ShortFloat = 4
length_without_value ExtendedFloat = 16

-- the length without explicit length, of a value of so many characters or digits: two hexadecimal digits, eight bits or
-- one character in a byte, two packed digits in a byte with the sign behind them
abbrev pub length_of_value : ConstantType → ℕ → ℕ
length_of_value Character digits = digits
length_of_value Hexadecimal digits = (digits + 1) / 2
length_of_value Binary digits = (digits + 7) / 8
length_of_value Packed digits = digits / 2 + 1
length_of_value Zoned digits = digits
length_of_value Fullword digits = 4
length_of_value Halfword digits = 2
length_of_value Doubleword digits = 8
length_of_value Address digits = 4
length_of_value LongAddress digits = 8
length_of_value ShortAddress digits = 2
length_of_value ExternalAddress digits = 4
length_of_value BasedAddress digits = 2
length_of_value LongFloat digits = 8
length_of_value ShortFloat digits = 4
length_of_value ExtendedFloat digits = 16

-- the length without explicit length
abbrev pub implied_length : ConstantType → Option ℕ → ℕ
implied_length type (Some digits) = length_of_value type digits
implied_length type None = length_without_value type

-- the boundary on which it stands without explicit length
abbrev pub alignment_of : ConstantType → ℕ
alignment_of Character = 1
alignment_of Hexadecimal = 1
alignment_of Binary = 1
alignment_of Packed = 1
alignment_of Zoned = 1
alignment_of Fullword = 4
alignment_of Halfword = 2
alignment_of Doubleword = 8
alignment_of Address = 4
alignment_of LongAddress = 8
alignment_of ShortAddress = 2
alignment_of ExternalAddress = 4
alignment_of BasedAddress = 2
alignment_of LongFloat = 8
alignment_of ShortFloat = 4
alignment_of ExtendedFloat = 8

-- the greatest explicit length; that of C and X depends on the operation
abbrev pub greatest_length : Purpose → ConstantType → ℕ
greatest_length Constant Character = 256
greatest_length Storage Character = 65535
greatest_length Constant Hexadecimal = 256
greatest_length Storage Hexadecimal = 65535
greatest_length purpose Binary = 256
greatest_length purpose Packed = 16
greatest_length purpose Zoned = 16
greatest_length purpose Fullword = 8
greatest_length purpose Halfword = 8
greatest_length purpose Doubleword = 8
greatest_length purpose Address = 8
greatest_length purpose LongAddress = 8
greatest_length purpose ShortAddress = 2
greatest_length purpose ExternalAddress = 4
greatest_length purpose BasedAddress = 2
greatest_length purpose LongFloat = 8
greatest_length purpose ShortFloat = 8
greatest_length purpose ExtendedFloat = 16
