-- What a label on DC and DS means in conditional assembly: that on the first constant (HLASM Language Reference SC26-4940,
-- "Type attribute (T')", "Length attribute (L')"; that a length counts only where it is a decimal number is this project's).
use Rattle.std.specs.Prelude.{ℕ, Bool, true, false, List, [], ◌∷◌, min, Option, Some, None, nat_le, if◌then◌else◌}
use Rattle.hl_base.specs.declared.set.Attr.{Attr}
use Rattle.constant_table.specs.declared.constant_type.ConstantType.{ConstantType}
use Rattle.constant_table.specs.declared.lengths.Purpose.{Purpose}
use Rattle.constant_table.specs.declared.lengths.Purpose.TheVariants as purpose
use Rattle.constant_table.specs.Types.{letter_of, letter_with_length_of}
use Rattle.constant_table.specs.Lengths.{implied_length, greatest_length}
use Rattle.constant_grammar.specs.Amounts.{Amount, decimal, computed}
use Rattle.constant_grammar.specs.Constants.{Constant, constant}
use Rattle.constant_grammar.specs.Digits.{first_digits}
use Rattle.constant_grammar.specs.Nominals.{Nominal}

-- a constant that cannot be read has U (85) and the length 1
abbrev pub unread : Attr
unread = record { letter = 85; length = 1 }

-- the greatest length that is told
abbrev pub told_length : ℕ → ℕ
told_length length = min length 4294967295

-- an explicit length, where it is a decimal number within its bounds; else 1
abbrev pub explicit_length : (greatest : ℕ) → Amount → ℕ
explicit_length greatest (decimal length) = if nat_le length greatest then length else 1
explicit_length greatest (computed tree) = 1

-- a constant with an explicit length has that letter and length, and any other those of its type and its first value
abbrev pub by_length : Purpose → Constant → Option Amount → Attr
by_length purpose one (Some amount) = record {
  letter = letter_with_length_of one.kind;
  length = explicit_length (greatest_length purpose one.kind) amount;
}
by_length purpose one None = record {
  letter = letter_of one.kind;
  length = told_length (implied_length one.kind (first_digits one));
}

abbrev pub of_constant : Purpose → Constant → Attr
of_constant purpose one = by_length purpose one one.length

-- DC wants values
abbrev pub lacks_values : Option Nominal → Bool
lacks_values None = true
lacks_values (Some nominal) = false

abbrev pub is_incomplete : Purpose → Constant → Bool
is_incomplete purpose.Constant one = lacks_values one.nominal
is_incomplete purpose.Storage one = false

-- an operand that was read, or not
abbrev pub of_read : Purpose → Option Constant → Attr
of_read purpose (Some one) = if is_incomplete purpose one then unread else of_constant purpose one
of_read purpose None = unread

-- by the first operand
abbrev pub first_constant : Purpose → List (List ℕ) → Attr
first_constant purpose [] = unread
first_constant purpose (operand ∷ operands) = of_read purpose (constant operand)
