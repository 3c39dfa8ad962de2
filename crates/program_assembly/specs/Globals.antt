-- The number that a global SETA symbol holds in the end (this project).
use Rattle.std.specs.Prelude.{◌==◌, ◌&&◌, ℕ, ℤ, Bool, true, false, List, Option, Some, None, find}
use Rattle.std.specs.Option.{option_and_then}
use Rattle.std.specs.Str.{bytes_eq}
use Rattle.hl_base.specs.declared.set.SetValue.{SetValue}
use Rattle.hl_base.specs.declared.set.SetValue.TheVariants.{A, B, C}
use Rattle.trace_values.specs.declared.variable.Setting.{Setting}

-- whether a value is one of type A, and the number that it is then
abbrev pub is_number : SetValue → Bool
is_number (A number) = true
is_number (B bit) = false
is_number (C text) = false

abbrev pub number_in : SetValue → Option ℤ
number_in (A number) = Some number
number_in (B bit) = None
number_in (C text) = None

-- whether a setting is of the SETA symbol of a name without subscript
abbrev pub is_scalar : (name : List ℕ) → Setting → Bool
is_scalar name setting = (setting.element == 0) && (bytes_eq setting.name name && is_number setting.value)

-- the number that these settings give that symbol, if they give it one
abbrev pub number_of : (name : List ℕ) → List Setting → Option ℤ
number_of name settings = option_and_then (λ (setting : Setting). number_in setting.value) (find (is_scalar name) settings)
