-- What a variable symbol stands for (HLASM Language Reference SC26-4940, "SET symbols", "Subscripted SET symbols", "Symbolic
-- parameters", "System variable symbols"): one that means nothing here has no value (20); a subscript that is below 1 or above 4,096, more than
-- one, one at a symbol that has none, and none at a symbol that has one are out of range (22). The value of a global SET
-- symbol is asked for: where nothing is answered it is 0, 0 or the empty text.
use Rattle.std.specs.Prelude.{ℕ, ℤ, pos, negsuc, List, [], ◌∷◌, Option, Some, None, unwrap_or, if◌then◌else◌}
use Rattle.hl_base.specs.declared.set.Answer.{Answer}
use Rattle.hl_base.specs.declared.set.Answer.TheVariants as answer
use Rattle.hl_base.specs.declared.set.Key.TheVariants.{Global}
use Rattle.hl_base.specs.declared.set.SetKind.{SetKind}
use Rattle.hl_base.specs.declared.set.SetKind.TheVariants as kind
use Rattle.hl_base.specs.declared.set.SetValue.{SetValue}
use Rattle.hl_base.specs.declared.set.SetValue.TheVariants as set
use Rattle.cond_expr.specs.Told.{Told}
use Rattle.cond_expr.specs.Asking.{Asking, done, needs, Answers}
use Rattle.cond_expr.specs.Frames as frames
use Rattle.cond_expr.specs.Frames.{Standing, Frame, value, parameter, fault}
use Rattle.set_symbols.specs.Table.{Table, value_of, unset, place}
use Rattle.set_symbols.specs.declared.symbol.Declared.{Declared}
use Rattle.macro_binding.specs.declared.value.Worth.{Worth}
use Rattle.macro_binding.specs.declared.value.Worth.TheVariants.{Text, OutOfRange}
use Rattle.call_knowledge.specs.Knowledge.{Knowledge, Meaning, Unknown, SystemText, Scalar, Array, meaning, bound_value, positional_count}

-- the element of this number, 1 to 4,096
abbrev pub element : ℤ → Option ℕ
element (pos n) = place (Some n)
element (negsuc n) = None

-- where the value of a symbol without a subscript is
abbrev pub scalar_place : (subscripts : List ℤ) → Option ℕ
scalar_place [] = Some 0
scalar_place (n ∷ more) = None

-- where the value of an element is
abbrev pub array_place : (subscripts : List ℤ) → Option ℕ
array_place [] = None
array_place (n ∷ []) = element n
array_place (n ∷ m ∷ more) = None

-- the value that is answered for a global SET symbol of a type
abbrev pub answered : SetKind → Answer → SetValue
answered kind.A (answer.Number n) = set.A n
answered kind.B (answer.Bit bit) = set.B bit
answered kind.C (answer.Chars text) = set.C text
answered kind other = unset kind

-- the value at a place of a SET symbol
abbrev pub global_value : SetKind → (name : List ℕ) (at : ℕ) → Asking Standing
global_value kind name at = needs (Global kind name at) (λ given. done (value (answered kind given)))

abbrev pub local_value : Table → SetKind → (name : List ℕ) (at : ℕ) → Asking Standing
local_value table kind name at = done (value (unwrap_or (value_of table name at) (unset kind)))

abbrev pub symbol_value : Table → Declared → (name : List ℕ) → Option ℕ → Asking Standing
symbol_value table declared name None = done (fault 22)
symbol_value table declared name (Some at) =
    if declared.global then global_value declared.kind name at else local_value table declared.kind name at

-- a system variable symbol has no subscript
abbrev pub system_value : (text : List ℕ) (subscripts : List ℤ) → Asking Standing
system_value text [] = done (parameter text)
system_value text (n ∷ more) = done (fault 22)

-- what a variable symbol with these subscripts stands for
abbrev pub standing_by : Knowledge → Meaning → (name : List ℕ) (subscripts : List ℤ) → Asking Standing
standing_by k Unknown name subscripts = done (fault 20)
standing_by k (SystemText text) name subscripts = system_value text subscripts
standing_by k (Scalar declared) name subscripts = symbol_value k.scalars declared name (scalar_place subscripts)
standing_by k (Array declared) name subscripts = symbol_value k.arrays declared name (array_place subscripts)

-- a parameter, or &SYSLIST
abbrev pub bound_standing : Worth → Standing
bound_standing (Text text) = parameter text
bound_standing OutOfRange = fault 22

abbrev pub standing_or : Option Worth → Asking Standing → Asking Standing
standing_or None other = other
standing_or (Some worth) other = done (bound_standing worth)

abbrev pub standing : Knowledge → (name : List ℕ) (subscripts : List ℤ) → Asking Standing
standing k name subscripts = standing_or (bound_value k.binding name subscripts) (standing_by k (meaning k name) name subscripts)

-- What surrounds the expressions of a call. Open code has no operands.
abbrev pub frame : Knowledge → Frame
frame k = record { variable = standing k; positionals = positional_count k.binding }

-- what an expression of a call is told, under the answers given
abbrev pub told_by : Knowledge → Answers → Told
told_by k answers = frames.told_by (frame k) answers
