-- What is said of an operand of DC or DS, or of a literal (this project).
use Rattle.std.specs.Prelude.{◌&&◌, Bool, true, false, List, [], ◌∷◌, ◌++◌, nat_lt, Option, is_some, if◌then◌else◌}
use Rattle.std.specs.Option.{option_map_or}
use Rattle.constant_table.specs.declared.constant_type.ConstantType.{ConstantType}
use Rattle.constant_table.specs.declared.constant_type.ValueKind.{ValueKind}
use Rattle.constant_table.specs.declared.constant_type.ValueKind.TheVariants as kind
use Rattle.constant_table.specs.Types as types
use Rattle.constant_grammar.specs.Constants.{Constant}
use Rattle.constant_values.specs.Values as values
use Rattle.note_rows.specs.declared.row.Row.{Row}
use Rattle.note_rows.specs.declared.row.Row.TheVariants as row
use Rattle.constant_operands.specs.declared.number.Number.{Number}
use Rattle.constant_operands.specs.declared.number.Number.TheVariants.{Known, Refused, NoNumber, Unknown}
use Rattle.constant_operands.specs.declared.number.Numbers.{Numbers}
use Rattle.constant_operands.specs.declared.operand.ConstantUse.{ConstantUse}
use Rattle.constant_operands.specs.declared.operand.ConstantUse.TheVariants.{Dc, Ds, Literal}
use Rattle.constant_operands.specs.Numbers.{are_unknown, explicit_of}

-- what the values of a type are
abbrev pub kind_of : ConstantType → ValueKind
kind_of type = types.kind_of type

-- an operand that cannot be read: nothing else is said of it
abbrev pub unread : List Row
unread = row.BadConstant ∷ []

-- a row, where there is cause for it
abbrev pub when : Bool → Row → List Row
when cause said = if cause then said ∷ [] else []

abbrev pub is_float : ValueKind → Bool
is_float kind.Floats = true
is_float kind.Text = false
is_float kind.HexadecimalDigits = false
is_float kind.Bits = false
is_float kind.Decimals = false
is_float kind.Integers = false
is_float kind.Expressions = false
is_float kind.Symbols = false
is_float kind.Addresses = false

-- a known factor above 0
abbrev pub is_some_copy : Number → Bool
is_some_copy (Known n) = nat_lt 0 n
is_some_copy Refused = false
is_some_copy NoNumber = false
is_some_copy Unknown = false

-- whether constants are made of the values; DS makes none
abbrev pub makes_constants : ConstantUse → Number → Bool
makes_constants Dc factor = is_some_copy factor
makes_constants Ds factor = false
makes_constants Literal factor = is_some_copy factor

-- whether a value does not fit its length, where that is known
abbrev pub is_too_long : ConstantType → Option Number → values.Values → Bool
is_too_long type length all = option_map_or (λ explicit. values.is_too_long type explicit all) (explicit_of length) false

-- What is said of an operand that was read and whose numbers are not out of their bounds: that its floating-point values are
-- not read, that a value is wrong for its type, that one does not fit, that a number has no value yet.
abbrev pub said_of : ConstantUse → Numbers → Constant → values.Values → List Row
said_of used numbers one all =
    when (is_float (kind_of one.kind) && makes_constants used numbers.factor) row.FloatingPoint
    ++ when (values.is_wrong one.kind (is_some one.length) all) row.BadNominalValue
    ++ when (is_too_long one.kind numbers.length all) row.ValueTooLong
    ++ when (are_unknown numbers) row.UnknownValue
