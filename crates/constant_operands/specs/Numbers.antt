-- The duplication factor and the explicit length of an operand (HLASM Language Reference SC26-4940, "Duplication factor",
-- "Length modifier"); their bounds are this project's profile. An expression comes to what is told of it.
use Rattle.std.specs.Prelude.{ℕ, ◌&&◌, ◌||◌, Bool, true, false, ℤ, pos, negsuc, nat_le, Option, Some, None, option_map, if◌then◌else◌}
use Rattle.std.specs.Option.{option_map_or}
use Rattle.constant_table.specs.Lengths.{greatest_length}
use Rattle.constant_grammar.specs.Amounts.{Amount, decimal, computed}
use Rattle.constant_grammar.specs.Constants.{Constant}
use Rattle.constant_operands.specs.declared.number.Number.{Number}
use Rattle.constant_operands.specs.declared.number.Number.TheVariants.{Known, Refused, NoNumber, Unknown}
use Rattle.constant_operands.specs.declared.number.Numbers.{Numbers}
use Rattle.constant_operands.specs.declared.number.Told.{Told}
use Rattle.constant_operands.specs.declared.number.Told.TheVariants as told
use Rattle.constant_operands.specs.declared.number.ToldNumbers.{ToldNumbers}
use Rattle.constant_operands.specs.declared.operand.ConstantUse.{ConstantUse}
use Rattle.constant_operands.specs.declared.operand.ConstantUse.TheVariants.{Dc, Ds, Literal}
use Rattle.constant_operands.specs.Operands.{purpose_of}

-- a number within its bounds, or out of them
abbrev pub within : (least greatest : ℕ) → ℕ → Number
within least greatest n = if nat_le least n && nat_le n greatest then Known n else Refused

-- the same of a number with a sign
abbrev pub within_signed : (least greatest : ℕ) → ℤ → Number
within_signed least greatest (pos n) = within least greatest n
within_signed least greatest (negsuc n) = Refused

-- the same of an expression, by what is told of it
abbrev pub told_number : (least greatest : ℕ) → Told → Number
told_number least greatest (told.Absolute n) = within_signed least greatest n
told_number least greatest told.Other = NoNumber
told_number least greatest told.Unknown = Unknown

-- a number as it is written: decimal, or by an expression of which this is told
abbrev pub number_of : (least greatest : ℕ) → Told → Amount → Number
number_of least greatest value (decimal n) = within least greatest n
number_of least greatest value (computed tree) = told_number least greatest value

-- the least factor: a literal makes at least one constant
abbrev pub least_copies : ConstantUse → ℕ
least_copies Dc = 0
least_copies Ds = 0
least_copies Literal = 1

-- the greatest factor
abbrev pub most_copies : ℕ
most_copies = 16777215

-- a factor, 1 where none is written
abbrev pub factor_of : ConstantUse → Told → Option Amount → Number
factor_of used value None = Known 1
factor_of used value (Some amount) = number_of (least_copies used) most_copies value amount

-- the numbers of a constant; there is no length where none is written
abbrev pub numbers_of : ConstantUse → ToldNumbers → Constant → Numbers
numbers_of used values one = record {
  factor = factor_of used values.factor one.factor;
  length = option_map (number_of 0 (greatest_length (purpose_of used) one.kind) values.length) one.length;
}

abbrev pub is_refused : Number → Bool
is_refused (Known n) = false
is_refused Refused = true
is_refused NoNumber = false
is_refused Unknown = false

abbrev pub is_unknown : Number → Bool
is_unknown (Known n) = false
is_unknown Refused = false
is_unknown NoNumber = false
is_unknown Unknown = true

-- whether one of the numbers is out of its bounds
abbrev pub are_refused : Numbers → Bool
are_refused numbers = is_refused numbers.factor || option_map_or is_refused numbers.length false

-- whether one of them has no value yet
abbrev pub are_unknown : Numbers → Bool
are_unknown numbers = is_unknown numbers.factor || option_map_or is_unknown numbers.length false

-- the explicit length, none where none is written; nothing where one is written that has no right number
abbrev pub explicit_of : Option Number → Option (Option ℕ)
explicit_of None = Some None
explicit_of (Some (Known n)) = Some (Some n)
explicit_of (Some Refused) = None
explicit_of (Some NoNumber) = None
explicit_of (Some Unknown) = None
