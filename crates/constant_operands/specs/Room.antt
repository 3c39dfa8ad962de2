-- How many bytes an operand takes, and on which boundary (HLASM Language Reference SC26-4940, "Alignment of constants",
-- "Duplication factor"). That an operand takes nothing whose numbers are not known, or wrong, is this project's.
use Rattle.std.specs.Prelude.{ℕ, ◌*◌, Option, Some, None, is_some}
use Rattle.constant_grammar.specs.Constants.{Constant}
use Rattle.constant_values.specs.Values as values
use Rattle.constant_operands.specs.declared.number.Number.{Number}
use Rattle.constant_operands.specs.declared.number.Number.TheVariants.{Known, Refused, NoNumber, Unknown}
use Rattle.constant_operands.specs.declared.number.Numbers.{Numbers}
use Rattle.constant_operands.specs.declared.room.Extent.{Extent}
use Rattle.constant_operands.specs.Numbers.{explicit_of}
use Rattle.constant_operands.specs.Operands.{Operand}

-- the bytes of the values, so many times, on their boundary
abbrev pub extent_by : (factor : ℕ) → (explicit : Option ℕ) → Constant → values.Values → Extent
extent_by factor explicit one all = record {
  boundary = values.boundary one.kind (is_some explicit);
  bytes = factor * values.bytes one.kind explicit all;
}

-- the same by a factor and a length that may be wrong
abbrev pub extent_with : Number → Option (Option ℕ) → Constant → values.Values → Option Extent
extent_with (Known factor) (Some explicit) one all = Some (extent_by factor explicit one all)
extent_with (Known factor) None one all = None
extent_with Refused explicit one all = None
extent_with NoNumber explicit one all = None
extent_with Unknown explicit one all = None

abbrev pub extent_of : Numbers → Constant → values.Values → Option Extent
extent_of numbers one all = extent_with numbers.factor (explicit_of numbers.length) one all

-- the boundary on which an operand stands as it is written, whatever its numbers come to: any byte for one that was not read
abbrev pub boundary_by : Option Constant → ℕ
boundary_by None = 1
boundary_by (Some one) = values.boundary one.kind (is_some one.length)

abbrev pub boundary_of : Operand → ℕ
boundary_of operand = boundary_by operand.constant
