-- Decimal numbers as values of constants (HLASM Language Reference SC26-4940, "Fixed-point constants—F and H", "Decimal
-- constants—P and Z"). That a number may have no more than one sign, before it, is this project's.
use Rattle.std.specs.Prelude.{ℕ, ◌+◌, ◌-◌, ◌*◌, ◌/◌, ◌^◌, ◌==◌, ◌&&◌, ◌||◌, Bool, List, [], ◌∷◌, length, drop, min, nat_le, nat_lt, slice_index, if◌then◌else◌}
use Rattle.constant_values.specs.declared.class.Class.TheVariants.{DecimalDigit, Period}
use Rattle.constant_values.specs.Classes.{count_of}

-- a number below 0 begins with - (45)
abbrev pub is_negative : List ℕ → Bool
is_negative text = slice_index text 0 == 45

-- a sign is + (43) or -
abbrev pub has_sign : List ℕ → Bool
has_sign text = (slice_index text 0 == 43) || (slice_index text 0 == 45)

abbrev pub one_if : Bool → ℕ
one_if test = if test then 1 else 0

-- what stands behind the sign, if there is one
abbrev pub unsigned : List ℕ → List ℕ
unsigned text = drop (one_if (has_sign text)) text

-- a number without a sign: digits, one at least, and so many periods at most, and nothing else
abbrev pub is_unsigned : (most_periods : ℕ) → List ℕ → Bool
is_unsigned most_periods text =
    nat_lt 0 (count_of DecimalDigit text)
    && (nat_le (count_of Period text) most_periods && (length text - count_of DecimalDigit text == count_of Period text))

-- a number
abbrev pub is_number : (most_periods : ℕ) → List ℕ → Bool
is_number most_periods text = is_unsigned most_periods (unsigned text)

-- a number with one digit more (0 is 48); numbers are told apart up to the greatest of 64 bits, which no constant holds
abbrev pub with_digit : (number digit : ℕ) → ℕ
with_digit number digit = min (number * 10 + (digit - 48)) 18446744073709551615

-- the number that is written by digits so far and those of a text
abbrev pub number_behind : ℕ → List ℕ → ℕ
number_behind number [] = number
number_behind number (c ∷ cs) = number_behind (with_digit number c) cs

-- the number behind the sign
abbrev pub magnitude : List ℕ → ℕ
magnitude text = number_behind 0 (unsigned text)

-- how many numbers below 0 so many bytes hold, 8 at most: half of all numbers that they hold
abbrev pub half_range : ℕ → ℕ
half_range bytes = 256 ^ (min bytes 8) / 2

-- whether a number fits so many bytes as a binary number with a sign, which no byte holds
abbrev pub fits_half : (half : ℕ) → List ℕ → Bool
fits_half half text = if is_negative text then nat_le (magnitude text) half else nat_lt (magnitude text) half

abbrev pub fits : (bytes : ℕ) → List ℕ → Bool
fits bytes text = nat_lt 0 bytes && fits_half (half_range bytes) text
