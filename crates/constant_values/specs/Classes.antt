-- Characters of values, by what they are (HLASM Language Reference SC26-4940, "Hexadecimal constant—X", "Binary constant—B",
-- "Decimal constants—P and Z").
use Rattle.std.specs.Prelude.{ℕ, ◌+◌, ◌==◌, ◌||◌, Bool, List, [], ◌∷◌, if◌then◌else◌}
use Rattle.std.specs.Char.{is_ascii_digit, is_ascii_hexdigit}
use Rattle.constant_values.specs.declared.class.Class.{Class}
use Rattle.constant_values.specs.declared.class.Class.TheVariants.{HexadecimalDigit, Bit, DecimalDigit, Period}

-- whether a character is of a class: a bit is 0 (48) or 1
abbrev pub is_of : Class → ℕ → Bool
is_of HexadecimalDigit c = is_ascii_hexdigit c
is_of Bit c = (c == 48) || (c == 49)
is_of DecimalDigit c = is_ascii_digit c
is_of Period c = c == 46

-- how many characters of a text are of a class
abbrev pub count_of : Class → List ℕ → ℕ
count_of class [] = 0
count_of class (c ∷ cs) = if is_of class c then count_of class cs + 1 else count_of class cs
