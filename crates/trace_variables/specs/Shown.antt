-- Variable symbols as they are shown (this project). A name stands there with its `&`.
use Rattle.std.specs.Prelude.{◌==◌, ◌&&◌, ℕ, ℤ, Bool, true, false, pos, if◌then◌else◌, List, [], ◌∷◌, ◌++◌, codes, not}
use Rattle.std.specs.Str.{chars, bytes_eq}
use Rattle.std.specs.Fmt.{decimal, signed_decimal}
use Rattle.hl_base.specs.declared.set.SetValue.{SetValue}
use Rattle.hl_base.specs.declared.set.SetValue.TheVariants as value
use Rattle.trace_values.specs.declared.variable.Variable.{Variable}
use Rattle.trace_variables.specs.Values.{VariableKey}

-- &SYSLIST is shown with its subscript always, every other symbol only with one above 0
abbrev pub is_plain : VariableKey → Bool
is_plain key = (key.element == 0) && not (bytes_eq key.name (codes "SYSLIST"))

abbrev pub shown_name : VariableKey → List ℕ
shown_name key =
    if is_plain key then 38 ∷ key.name
    else (38 ∷ key.name ++ (40 ∷ decimal key.element ++ 41 ∷ []))

-- a value as text: numbers in decimal, with a minus sign below 0
abbrev pub bit : Bool → ℤ
bit true = pos 1
bit false = pos 0

abbrev pub text_of : SetValue → List ℕ
text_of (value.A number) = signed_decimal number
text_of (value.B one) = signed_decimal (bit one)
text_of (value.C text) = text

abbrev pub shown : Bool → VariableKey × SetValue → Variable
shown global entry = record { name = chars (shown_name entry.0); value = text_of entry.1; global = global }
