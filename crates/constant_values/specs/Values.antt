-- The values of a constant, and what they come to (HLASM Language Reference SC26-4940, "Nominal value", "Length modifier",
-- "Alignment of constants"; which values are wrong is this project's profile).
use Rattle.std.specs.Prelude.{ℕ, ◌*◌, ◌==◌, ◌&&◌, Bool, false, not, List, [], ◌∷◌, length, Option, Some, None, if◌then◌else◌}
use Rattle.std.specs.List.{list_any, slice_split, sum_by}
use Rattle.constant_table.specs.declared.constant_type.ConstantType.{ConstantType}
use Rattle.constant_table.specs.declared.constant_type.ValueKind.{ValueKind}
use Rattle.constant_table.specs.declared.constant_type.ValueKind.TheVariants as kind
use Rattle.constant_table.specs.Lengths.{alignment_of, length_without_value}
use Rattle.constant_table.specs.Types.{kind_of}
use Rattle.constant_grammar.specs.Constants.{Constant}
use Rattle.constant_grammar.specs.Nominals.{Nominal, quoted, enclosed}
use Rattle.constant_values.specs.Right as right

-- a comma (44)
abbrev pub is_comma : ℕ → Bool
is_comma c = c == 44

abbrev pub is_no_comma : ℕ → Bool
is_no_comma c = not (c == 44)

-- what is written of values: none, or texts within apostrophes, or so many within parentheses
pub data Values : Type 0 where
  absent : Values
  texts : (all : List (List ℕ)) → Values
  elements : (count : ℕ) → Values

-- the values within apostrophes: the whole text for C, and what stands between the commas for all other types
abbrev pub texts_of : ValueKind → List ℕ → List (List ℕ)
texts_of kind.Text text = text ∷ []
texts_of kind.HexadecimalDigits text = slice_split is_comma text
texts_of kind.Bits text = slice_split is_comma text
texts_of kind.Decimals text = slice_split is_comma text
texts_of kind.Integers text = slice_split is_comma text
texts_of kind.Floats text = slice_split is_comma text
texts_of kind.Expressions text = slice_split is_comma text
texts_of kind.Symbols text = slice_split is_comma text
texts_of kind.Addresses text = slice_split is_comma text

-- the values of a constant as it is written
abbrev pub written : ValueKind → Option Nominal → Values
written kind None = absent
written kind (Some (quoted text)) = texts (texts_of kind text)
written kind (Some (enclosed values)) = elements (length values)

abbrev pub values_of : Constant → Values
values_of constant = written (kind_of constant.kind) constant.nominal

-- how many constants there are: one where no value is written
abbrev pub count : Values → ℕ
count absent = 1
count (texts all) = length all
count (elements n) = n

-- how many bytes they take where no length is given: each as its value asks for
abbrev pub implied : ConstantType → Values → ℕ
implied type absent = length_without_value type
implied type (texts all) = sum_by (right.implied_bytes type) all
implied type (elements n) = n * length_without_value type

-- how many bytes they take
abbrev pub bytes : ConstantType → (explicit : Option ℕ) → Values → ℕ
bytes type (Some length) values = count values * length
bytes type None values = implied type values

-- the boundary on which they stand: any byte where a length is given
abbrev pub boundary : ConstantType → (sized : Bool) → ℕ
boundary type sized = if sized then 1 else alignment_of type

-- any text is right whose length is given, also an empty one
abbrev pub is_any_text : ValueKind → (sized : Bool) → Bool
is_any_text kind.Text sized = sized
is_any_text kind.HexadecimalDigits sized = false
is_any_text kind.Bits sized = false
is_any_text kind.Decimals sized = false
is_any_text kind.Integers sized = false
is_any_text kind.Expressions sized = false
is_any_text kind.Symbols sized = false
is_any_text kind.Addresses sized = false
is_any_text kind.Floats sized = false

abbrev pub is_wrong_text : ValueKind → List ℕ → Bool
is_wrong_text kind text = not (right.is_right kind text)

-- whether a value is wrong for its type
abbrev pub is_wrong : ConstantType → (sized : Bool) → Values → Bool
is_wrong type sized absent = false
is_wrong type sized (texts all) = not (is_any_text (kind_of type) sized) && list_any (is_wrong_text (kind_of type)) all
is_wrong type sized (elements n) = false

-- whether a value that is right does not fit the length of its constant
abbrev pub is_too_long : ConstantType → (explicit : Option ℕ) → Values → Bool
is_too_long type explicit absent = false
is_too_long type explicit (texts all) = list_any (right.is_too_long type explicit) all
is_too_long type explicit (elements n) = false
