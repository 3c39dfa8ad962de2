-- The operands of a call as they are sorted. No public clause cites this file. This project.
use Rattle.std.specs.Prelude.{◌≡◌, ℕ, Bool, true, false, not, List, [], ◌∷◌, map, is_some, Option, Some, None}
use Rattle.std.specs.Str.{chars}
use Rattle.indexmap.specs.IndexMap.{get_by_text}
use Rattle.macro_binding.specs.declared.binding.KeywordOperand.{KeywordOperand}
use Rattle.macro_binding.specs.declared.binding.KeywordValue.{KeywordValue}
use Rattle.macro_binding.specs.declared.binding.Sorting.{Sorting}
use Rattle.macro_binding.specs.Bindings.{Given, keyword, positional, positionals, values_for, last_or, repeated, given_twice}

-- an operand by the keyword and the value that were found in it
abbrev pub given_by : (text : List ℕ) → Option KeywordOperand → Given
given_by text None = positional text
given_by text (Some found) = keyword found.name (chars found.value.now)

-- what is kept of some values of a keyword
abbrev pub entry_of : List (List ℕ) → Option KeywordValue
entry_of [] = None
entry_of (value ∷ []) = Some (record { value = value; again = false })
entry_of (value ∷ next ∷ rest) = Some (record { value = last_or next rest; again = true })

-- whether a keyword was given one value
abbrev pub is_once : Option KeywordValue → Bool
is_once None = false
is_once (Some given) = not given.again

-- what is kept after one more value
abbrev pub added : Option KeywordValue → List ℕ → KeywordValue
added before value = record { value = value; again = is_some before }

-- what was sorted is these operands
pub record Sorts (sorting : Sorting) (given : List Given) : Type 0 where
  pub positionals : sorting.positionals ≡ positionals given
  pub keywords : (name : List ℕ) → get_by_text sorting.keywords name ≡ entry_of (values_for name given)
  pub notes : sorting.notes ≡ map given_twice (repeated given)
