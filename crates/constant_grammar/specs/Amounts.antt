-- Duplication factors and explicit lengths as they are written. HLASM Language Reference SC26-4940, "Duplication factor" and
-- "Length modifier": decimal digits, or an expression in parentheses.
use Rattle.std.specs.Prelude.{ℕ, ◌+◌, ◌-◌, ◌*◌, ◌==◌, ◌||◌, Bool, List, [], ◌∷◌, drop, min, Option, Some, None, Result, Ok, Err, option_map, if◌then◌else◌}
use Rattle.std.specs.List.{prefix_len}
use Rattle.std.specs.Char.{is_ascii_digit}
use Rattle.expression_grammar.specs.declared.character.Grammar.TheVariants.{Ordinary}
use Rattle.expression_grammar.specs.Readings.{Front, read_front}
use Rattle.expression_grammar.specs.Trees.{Tree}

-- a number as it is written
pub data Amount : Type 0 where
  decimal : (number : ℕ) → Amount
  computed : (tree : Tree) → Amount

-- a number at the front of a text, and how many characters it takes
pub record AmountFront : Type 0 where
  pub amount : Amount
  pub count : ℕ

-- the same of one that may be left away
pub record OptionalAmount : Type 0 where
  pub amount : Option Amount
  pub count : ℕ

abbrev pub is_digit : ℕ → Bool
is_digit c = is_ascii_digit c

-- a decimal number with one digit more (0 is 48); numbers are told apart up to 4,294,967,295
abbrev pub with_digit : (number digit : ℕ) → ℕ
with_digit number digit = min (number * 10 + (digit - 48)) 4294967295

-- the number that is written by digits so far and those that a text begins with
abbrev pub number_behind : ℕ → List ℕ → ℕ
number_behind number [] = number
number_behind number (c ∷ cs) = if is_digit c then number_behind (with_digit number c) cs else number

-- how many digits a text begins with
abbrev pub digit_count : List ℕ → ℕ
digit_count text = prefix_len is_digit text

-- an expression that ends before a parenthesis, with both its parentheses
abbrev pub enclosed : Result Front ℕ → Option AmountFront
enclosed (Ok front) = Some (record { amount = computed front.tree; count = front.before + 2 })
enclosed (Err at) = None

-- the number that a text begins with
abbrev pub amount_front : List ℕ → Option AmountFront
amount_front [] = None
amount_front (c ∷ cs) =
    if is_digit c then Some (record { amount = decimal (number_behind 0 (c ∷ cs)); count = digit_count (c ∷ cs) })
    else (if c == 40 then enclosed (read_front Ordinary cs) else None)

-- no number
abbrev pub omitted : OptionalAmount
omitted = record { amount = None; count = 0 }

-- a number behind so many characters
abbrev pub given : ℕ → AmountFront → OptionalAmount
given before front = record { amount = Some front.amount; count = front.count + before }

-- a duplication factor begins with a digit or a parenthesis
abbrev pub begins_factor : ℕ → Bool
begins_factor c = is_digit c || (c == 40)

-- an explicit length begins with L (76), in either case
abbrev pub begins_length : ℕ → Bool
begins_length c = (c == 76) || (c == 108)

-- the duplication factor at the front of a text
abbrev pub factor : List ℕ → Option OptionalAmount
factor [] = Some omitted
factor (c ∷ cs) = if begins_factor c then option_map (given 0) (amount_front (c ∷ cs)) else Some omitted

-- the explicit length at the front of a text
abbrev pub explicit_length : List ℕ → Option OptionalAmount
explicit_length [] = Some omitted
explicit_length (c ∷ cs) = if begins_length c then option_map (given 1) (amount_front cs) else Some omitted

-- what stands behind so many characters
abbrev pub behind : ℕ → List ℕ → List ℕ
behind count text = drop count text
