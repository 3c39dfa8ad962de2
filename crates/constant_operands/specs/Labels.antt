-- What a label on an operand of DC or DS means where statements are laid out (HLASM Language Reference SC26-4940, "Type
-- attribute (T')", "Length attribute (L')"): that on its first constant. That a length that is not known is 1 is this
-- project's.
use Rattle.std.specs.Prelude.{ℕ, min, Option, Some, None}
use Rattle.hl_base.specs.declared.set.Attr.{Attr}
use Rattle.constant_table.specs.Types.{letter_of, letter_with_length_of}
use Rattle.constant_table.specs.Lengths.{implied_length}
use Rattle.constant_grammar.specs.Amounts.{Amount}
use Rattle.constant_grammar.specs.Constants.{Constant}
use Rattle.constant_grammar.specs.Digits.{first_digits}
use Rattle.constant_operands.specs.declared.number.Number.{Number}
use Rattle.constant_operands.specs.declared.number.Number.TheVariants.{Known, Refused, NoNumber, Unknown}

-- an operand that was not read has U (85) and the length 1
abbrev pub unread : Attr
unread = record { letter = 85; length = 1 }

-- the letter, by whether a length is written
abbrev pub letter_by : Constant → Option Amount → ℕ
letter_by one (Some amount) = letter_with_length_of one.kind
letter_by one None = letter_of one.kind

-- the length of the first value, where none is written; the greatest that is told is that of 32 bits
abbrev pub implied_length_of : Constant → ℕ
implied_length_of one = min (implied_length one.kind (first_digits one)) 4294967295

abbrev pub length_of : Constant → Option Number → ℕ
length_of one None = implied_length_of one
length_of one (Some (Known n)) = n
length_of one (Some Refused) = 1
length_of one (Some NoNumber) = 1
length_of one (Some Unknown) = 1

abbrev pub attr_of : Constant → Option Number → Attr
attr_of one length = record { letter = letter_by one one.length; length = length_of one length }
