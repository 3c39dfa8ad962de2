-- What a label on EQU means in conditional assembly (HLASM Language Reference SC26-4940, "EQU instruction"; that a length
-- and a letter are taken from self-defining terms alone is this project's).
use Rattle.std.specs.Prelude.{ℕ, ◌+◌, ◌==◌, zero, suc, List, [], ℤ, pos, negsuc, Option, Some, None, nat_le, slice_index_or, if◌then◌else◌}
use Rattle.hl_base.specs.declared.set.Attr.{Attr}
use Rattle.hl_base.specs.Order.{ebcdic}
use Rattle.cond_expr.specs.Terms.{term}

-- the number of an operand, where it is a self-defining term; an operand that is missing is empty
abbrev pub number_at : List (List ℕ) → ℕ → Option ℤ
number_at operands place = term (slice_index_or operands place [])

-- of so many characters, from this one on, the first with this byte in code page 037; U (85) where none has it
abbrev pub character_among : (count c byte : ℕ) → ℕ
character_among zero c byte = 85
character_among (suc count) c byte = if ebcdic c == byte then c else character_among count (c + 1) byte

-- the printable character with this byte, of the 95 from the blank (32) on
unfoldable pub character_with : ℕ → ℕ
character_with byte = character_among 95 32 byte

-- the same of a number with a sign
abbrev pub character_of : ℤ → ℕ
character_of (pos byte) = character_with byte
character_of (negsuc n) = 85

-- the letter that the third operand gives
abbrev pub letter_of : Option ℤ → ℕ
letter_of (Some number) = character_of number
letter_of None = 85

-- the length that the second operand gives: its number of 0 to 65,535, else 1
abbrev pub length_of : Option ℤ → ℕ
length_of (Some (pos length)) = if nat_le length 65535 then length else 1
length_of (Some (negsuc n)) = 1
length_of None = 1

-- letter and length by the operands
abbrev pub equate : List (List ℕ) → Attr
equate operands = record { letter = letter_of (number_at operands 2); length = length_of (number_at operands 1) }
