-- The values of a constant as they are written. HLASM Language Reference SC26-4940, "Nominal value".
use Rattle.std.specs.Prelude.{ℕ, ◌-◌, ◌==◌, ◌&&◌, Bool, true, false, List, [], ◌∷◌, length, take, Option, Some, None, option_map, if◌then◌else◌}
use Rattle.constant_table.specs.declared.constant_type.ValueKind.{ValueKind}
use Rattle.constant_table.specs.declared.constant_type.ValueKind.TheVariants as kind
use Rattle.operand_list.specs.SplitSublist.{elements_of}
use Rattle.constant_grammar.specs.Elements.{Element, element}

-- the values: a text between apostrophes as it is written, or elements in parentheses
pub data Nominal : Type 0 where
  quoted : (text : List ℕ) → Nominal
  enclosed : (elements : List Element) → Nominal

-- whether values of this kind stand within parentheses; the others stand within apostrophes
abbrev pub is_enclosed : ValueKind → Bool
is_enclosed kind.Expressions = true
is_enclosed kind.Symbols = true
is_enclosed kind.Addresses = true
is_enclosed kind.Text = false
is_enclosed kind.HexadecimalDigits = false
is_enclosed kind.Bits = false
is_enclosed kind.Decimals = false
is_enclosed kind.Integers = false
is_enclosed kind.Floats = false

-- whether a text that stands behind an opening apostrophe ends with the closing one: every other apostrophe is written
-- twice. It says first whether the one before the text waits for a second one
abbrev pub closes : Bool → List ℕ → Bool
closes waits [] = waits
closes true (c ∷ cs) = (c == 39) && closes false cs
closes false (c ∷ cs) = closes (c == 39) cs

-- what stands before the closing apostrophe
abbrev pub quoted_inner : List ℕ → Option (List ℕ)
quoted_inner text = if closes false text then Some (take (length text - 1) text) else None

abbrev pub quoted_value : List ℕ → Option Nominal
quoted_value [] = None
quoted_value (c ∷ cs) = if c == 39 then option_map quoted (quoted_inner cs) else None

-- a value in front of others, where all can be read
abbrev pub in_front : Option Element → Option (List Element) → Option (List Element)
in_front None others = None
in_front (Some value) others = option_map (λ values. value ∷ values) others

-- the values that some texts are, where each is one
abbrev pub all_elements : ValueKind → List (List ℕ) → Option (List Element)
all_elements kind [] = Some []
all_elements kind (text ∷ texts) = in_front (element kind text) (all_elements kind texts)

-- the values in the parentheses of a text
abbrev pub values_in : ValueKind → Option (List (List ℕ)) → Option Nominal
values_in kind (Some texts) = option_map enclosed (all_elements kind texts)
values_in kind None = None

abbrev pub enclosed_value : ValueKind → List ℕ → Option Nominal
enclosed_value kind text = values_in kind (elements_of text)

-- the values of a kind that a text is
abbrev pub nominal : ValueKind → List ℕ → Option Nominal
nominal kind text = if is_enclosed kind then enclosed_value kind text else quoted_value text
