-- How many characters or digits the first value of a constant has. HLASM Language Reference SC26-4940, "DC instruction":
-- where no length is given, that of the value. Values that are wrong for their type are counted alike.
use Rattle.std.specs.Prelude.{ℕ, ◌+◌, ◌-◌, ◌==◌, ◌||◌, ◌&&◌, Bool, false, not, List, [], ◌∷◌, Option, Some, None, slice_index, if◌then◌else◌}
use Rattle.std.specs.List.{prefix_len}
use Rattle.constant_table.specs.declared.constant_type.ValueKind.{ValueKind}
use Rattle.constant_table.specs.declared.constant_type.ValueKind.TheVariants as kind
use Rattle.constant_table.specs.Types.{kind_of}
use Rattle.constant_grammar.specs.Constants.{Constant}
use Rattle.constant_grammar.specs.Nominals.{Nominal, quoted, enclosed}

-- whether a character is written twice: an apostrophe or an ampersand
abbrev pub is_doubled : ℕ → Bool
is_doubled c = (c == 39) || (c == 38)

-- the characters of a text, where two of these are one
abbrev pub characters : List ℕ → ℕ
characters [] = 0
characters (c ∷ []) = 1
characters (c ∷ d ∷ rest) = if is_doubled c && (d == c) then characters rest + 1 else characters (d ∷ rest) + 1

-- how many characters stand before the first comma
abbrev pub first_count : List ℕ → ℕ
first_count text = prefix_len (λ c. not (c == 44)) text

-- whether a period stands before the first comma
abbrev pub has_period : List ℕ → Bool
has_period [] = false
has_period (c ∷ cs) = if (c == 46) || (c == 44) then c == 46 else has_period cs

-- whether a text begins with a sign
abbrev pub has_sign : List ℕ → Bool
has_sign text = (slice_index text 0 == 43) || (slice_index text 0 == 45)

-- one where a test holds
abbrev pub one_if : Bool → ℕ
one_if test = if test then 1 else 0

-- the digits of the first decimal number: neither a sign before it nor one period counts
abbrev pub decimal_count : List ℕ → ℕ
decimal_count text = first_count text - one_if (has_sign text) - one_if (has_period text)

-- how many characters or digits the first value of a kind has
abbrev pub count_in : ValueKind → List ℕ → ℕ
count_in kind.Text text = characters text
count_in kind.Decimals text = decimal_count text
count_in kind.HexadecimalDigits text = first_count text
count_in kind.Bits text = first_count text
count_in kind.Integers text = first_count text
count_in kind.Expressions text = first_count text
count_in kind.Symbols text = first_count text
count_in kind.Addresses text = first_count text
count_in kind.Floats text = first_count text

-- of values in parentheses the number has no meaning
abbrev pub count_of : ValueKind → Option Nominal → Option ℕ
count_of kind None = None
count_of kind (Some (quoted text)) = Some (count_in kind text)
count_of kind (Some (enclosed elements)) = Some 0

abbrev pub first_digits : Constant → Option ℕ
first_digits constant = count_of (kind_of constant.kind) constant.nominal
