-- Fields with variable symbols, as they are written (HLASM Language Reference SC26-4940, "Variable symbols",
-- "Concatenating symbols and characters"). An ampersand before a letter begins a variable symbol; two ampersands in a row
-- are two characters.
use Rattle.std.specs.Prelude.{◌≡◌, ℕ, ◌+◌, ◌-◌, ◌<◌, Bool, true, false, ◌&&◌, ◌==◌, List, [], ◌∷◌, length, take, drop, take_while, slice_index, if◌then◌else◌}
use Rattle.hl_base.specs.Symbols.{is_letter, is_symbol_character}
use Rattle.expression_grammar.specs.Trees.{Tree}
use Rattle.expression_grammar.specs.Views.{tree_of}
use Rattle.conditional_fields.specs.declared.front.Sought.TheVariants as sought
use Rattle.conditional_fields.specs.declared.template.Piece.{Piece}
use Rattle.conditional_fields.specs.declared.template.Piece.TheVariants.{Plain, Variable}
use Rattle.conditional_fields.specs.Fronts.{IsSought, IsFirstClosed, IsNeverClosed, IsReach}

-- an ampersand before a letter
abbrev pub begins_symbol : ℕ → List ℕ → Bool
begins_symbol c behind = (c == 38) && is_letter (slice_index behind 0)

-- the first of two ampersands
abbrev pub begins_pair : ℕ → List ℕ → Bool
begins_pair c behind = (c == 38) && (slice_index behind 0 == 38)

-- how many plain characters a text begins with; its first may be the second of two ampersands
abbrev pub plain_length : (second : Bool) → List ℕ → ℕ
plain_length second [] = 0
plain_length true (c ∷ rest) = plain_length false rest + 1
plain_length false (c ∷ rest) = if begins_symbol c rest then 0 else plain_length (begins_pair c rest) rest + 1

-- how many characters a variable symbol has without its subscripts: an ampersand, and the letters and digits behind it
abbrev pub bare_length : List ℕ → ℕ
bare_length text = length (take_while is_symbol_character (drop 1 text)) + 1

-- whether subscripts follow: a parenthesis directly behind the letters and digits
abbrev pub has_subscripts : List ℕ → Bool
has_subscripts text = slice_index text (bare_length text) == 40

-- a text begins with a variable symbol of so many characters
abbrev pub IsSymbolWith : (subscripts : Bool) → List ℕ → ℕ → Tree → Type 0
IsSymbolWith true text count tree = (before : ℕ) × IsFirstClosed sought.Variable text before tree × (count ≡ before + 1)
IsSymbolWith false text count tree = (count ≡ bare_length text) × IsSought sought.Variable (take count text) tree

abbrev pub IsSymbol : List ℕ → ℕ → Tree → Type 0
IsSymbol text count tree = IsSymbolWith (has_subscripts text) text count tree

-- it begins with none
abbrev pub HasNoSymbolWith : (subscripts : Bool) → List ℕ → Type 0
HasNoSymbolWith true text = IsNeverClosed sought.Variable text
HasNoSymbolWith false text = (tree : Tree) → IsSought sought.Variable (take (bare_length text) text) tree → ⊥

-- a text begins with no variable symbol, and reads as one up to this character
pub record IsBroken (text : List ℕ) (at : ℕ) : Type 0 where
  pub none : HasNoSymbolWith (has_subscripts text) text
  pub reach : IsReach sought.Variable text at

-- what is left behind a variable symbol: one period vanishes
abbrev pub behind_symbol : List ℕ → List ℕ
behind_symbol rest = if slice_index rest 0 == 46 then drop 1 rest else rest

-- a text begins with a piece, and this is behind it: as many plain characters as there are, or a variable symbol
abbrev pub IsPiece : List ℕ → Piece → List ℕ → Type 0
IsPiece text (Plain characters) behind =
    (0 < plain_length false text) × (characters ≡ take (plain_length false text) text) × (behind ≡ drop (plain_length false text) text)
IsPiece text (Variable tree) behind =
    (plain_length false text ≡ 0) × ((count : ℕ) × IsSymbol text count (tree_of tree) × (behind ≡ behind_symbol (drop count text)))

-- a text begins with these pieces, and this is behind them
abbrev pub Reads : List ℕ → List Piece → List ℕ → Type 0
Reads text [] behind = text ≡ behind
Reads text (piece ∷ pieces) behind = (middle : List ℕ) × IsPiece text piece middle × Reads middle pieces behind

-- a field is these pieces
abbrev pub IsTemplate : List ℕ → List Piece → Type 0
IsTemplate field pieces = Reads field pieces []

-- A variable symbol of a field cannot be read: behind some pieces the field reads as one up to the character at this place.
pub record IsUnreadable (field : List ℕ) (at : ℕ) : Type 0 where
  pub pieces : List Piece
  pub rest : List ℕ
  pub inside : ℕ
  pub reads : Reads field pieces rest
  pub some : 0 < length rest
  pub begins : plain_length false rest ≡ 0
  pub broken : IsBroken rest inside
  pub place : at ≡ length field - length rest + inside
