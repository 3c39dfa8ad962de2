-- The types of constants: how they are spelled, the letters of their labels, and what their values are. HLASM Language
-- Reference SC26-4940, "DC instruction" and "Type attribute (T')"; which types there are is this project's profile.
use Rattle.std.specs.Prelude.{ℕ, ◌==◌, List, [], ◌∷◌, Option, Some, None, if◌then◌else◌}
use Rattle.std.specs.Char.{to_ascii_uppercase}
use Rattle.constant_table.specs.declared.constant_type.ConstantType.{ConstantType}
use Rattle.constant_table.specs.declared.constant_type.ConstantType.TheVariants.{Character, Hexadecimal, Binary, Packed, Zoned, Fullword, Halfword, Doubleword, Address, LongAddress, ShortAddress, ExternalAddress, BasedAddress, LongFloat, ShortFloat, ExtendedFloat}
use Rattle.constant_table.specs.declared.constant_type.ValueKind.{ValueKind}
use Rattle.constant_table.specs.declared.constant_type.ValueKind.TheVariants.{Text, HexadecimalDigits, Bits, Decimals, Integers, Expressions, Symbols, Addresses, Floats}

-- the types that one letter spells: C, X, B, P, Z, F, H, A, Y, V, S, D, E, L
unfoldable pub spellings : List (ℕ × ConstantType)
spellings =
    (67, Character)
    ∷ (88, Hexadecimal)
    ∷ (66, Binary)
    ∷ (80, Packed)
    ∷ (90, Zoned)
    ∷ (70, Fullword)
    ∷ (72, Halfword)
    ∷ (65, Address)
    ∷ (89, ShortAddress)
    ∷ (86, ExternalAddress)
    ∷ (83, BasedAddress)
    ∷ (68, LongFloat)
    ∷ (69, ShortFloat)
    ∷ (76, ExtendedFloat)
    ∷ []

-- the type beside an upper-case letter in such a list
abbrev pub type_in : ℕ → List (ℕ × ConstantType) → Option ConstantType
type_in c [] = None
type_in c (row ∷ rows) = if c == row.0 then Some row.1 else type_in c rows

-- the type that a letter names, in either case
unfoldable pub type_of : ℕ → Option ConstantType
type_of c = type_in (to_ascii_uppercase c) spellings

-- the type that becomes of one where a second letter stands behind its own: FD and AD (D is 68)
abbrev pub extended_by : ℕ → ConstantType → Option ConstantType
extended_by c Fullword = if to_ascii_uppercase c == 68 then Some Doubleword else None
extended_by c Address = if to_ascii_uppercase c == 68 then Some LongAddress else None
extended_by c Character = None
extended_by c Hexadecimal = None
extended_by c Binary = None
extended_by c Packed = None
extended_by c Zoned = None
extended_by c Halfword = None
extended_by c Doubleword = None
extended_by c LongAddress = None
extended_by c ShortAddress = None
extended_by c ExternalAddress = None
extended_by c BasedAddress = None
extended_by c LongFloat = None
extended_by c ShortFloat = None
extended_by c ExtendedFloat = None

-- the letter of its labels where a constant has no explicit length: C, X, B, P, Z, F, H, F, A, A, Y, V, S, D, E, L
abbrev pub letter_of : ConstantType → ℕ
letter_of Character = 67
letter_of Hexadecimal = 88
letter_of Binary = 66
letter_of Packed = 80
letter_of Zoned = 90
letter_of Fullword = 70
letter_of Halfword = 72
letter_of Doubleword = 70
letter_of Address = 65
letter_of LongAddress = 65
letter_of ShortAddress = 89
letter_of ExternalAddress = 86
letter_of BasedAddress = 83
letter_of LongFloat = 68
letter_of ShortFloat = 69
letter_of ExtendedFloat = 76

-- the letter of its labels where a constant has an explicit length: the same, G for fixed point, R for addresses, K for
-- floating point
abbrev pub letter_with_length_of : ConstantType → ℕ
letter_with_length_of Character = 67
letter_with_length_of Hexadecimal = 88
letter_with_length_of Binary = 66
letter_with_length_of Packed = 80
letter_with_length_of Zoned = 90
letter_with_length_of Fullword = 71
letter_with_length_of Halfword = 71
letter_with_length_of Doubleword = 71
letter_with_length_of Address = 82
letter_with_length_of LongAddress = 82
letter_with_length_of ShortAddress = 82
letter_with_length_of ExternalAddress = 82
letter_with_length_of BasedAddress = 82
letter_with_length_of LongFloat = 75
letter_with_length_of ShortFloat = 75
letter_with_length_of ExtendedFloat = 75

-- what its values are
abbrev pub kind_of : ConstantType → ValueKind
kind_of Character = Text
kind_of Hexadecimal = HexadecimalDigits
kind_of Binary = Bits
kind_of Packed = Decimals
kind_of Zoned = Decimals
kind_of Fullword = Integers
kind_of Halfword = Integers
kind_of Doubleword = Integers
kind_of Address = Expressions
kind_of LongAddress = Expressions
kind_of ShortAddress = Expressions
kind_of ExternalAddress = Symbols
kind_of BasedAddress = Addresses
kind_of LongFloat = Floats
kind_of ShortFloat = Floats
kind_of ExtendedFloat = Floats
