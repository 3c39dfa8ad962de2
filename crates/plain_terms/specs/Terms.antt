-- Expressions that are a decimal number or a symbol alone, with a delimiter of operands behind them (HLASM Language Reference
-- SC26-4940, "Terms"). No public contract speaks of them.
use Rattle.std.specs.Prelude.{◌≡◌, ℕ, ◌<◌, ◌≤◌, ◌==◌, ◌||◌, Bool, true, List, [], ◌∷◌, length, Some, Result, Ok, Err, if◌then◌else◌}
use Rattle.std.specs.List.{list_all}
use Rattle.expression_grammar.specs.declared.character.Grammar.TheVariants.{Ordinary}
use Rattle.expression_grammar.specs.declared.tree.Form.TheVariants.{Decimal}
use Rattle.expression_grammar.specs.declared.tree.Reference.TheVariants.{Value}
use Rattle.expression_grammar.specs.Parts.{symbol_at}
use Rattle.expression_grammar.specs.Readings.{Front, read, read_front}
use Rattle.expression_grammar.specs.Spelling.{figures, is_figure, most_parts}
use Rattle.expression_grammar.specs.Trees.{Tree, Number, Ordinary as Named, size}
use Rattle.hl_base.specs.Symbols.{symbol_of}

-- the delimiters behind an expression of an operand: parentheses (40, 41) and a comma (44)
abbrev pub is_delimiter : ℕ → Bool
is_delimiter c = (c == 40) || ((c == 41) || (c == 44))

-- a text ends, or goes on with a delimiter
abbrev pub is_delimited : List ℕ → Bool
is_delimited [] = true
is_delimited (c ∷ cs) = is_delimiter c

-- digits that write a number
pub record IsDecimal (text : List ℕ) (bits : ℕ) : Type 0 where
  pub some : 0 < length text
  pub few : length text ≤ 10
  pub all : list_all (is_figure Decimal) text ≡ true
  pub valued : figures Decimal 0 text ≡ bits
  pub small : bits ≤ 2147483647

-- a text is a number or a symbol
pub data IsTerm (text : List ℕ) (tree : Tree) : Type 0 where
  decimal : (bits : ℕ) → IsDecimal text bits → tree ≡ Number Decimal bits → IsTerm text tree
  named : (name : List ℕ) → symbol_of text ≡ Some name → tree ≡ Named Value (symbol_at 0 name) → IsTerm text tree

-- what is read of a text that begins with a tree of so many characters, by what stands behind it
abbrev pub whole_behind : ℕ → Tree → List ℕ → Result Tree ℕ
whole_behind count tree [] = Ok tree
whole_behind count tree (c ∷ cs) = Err count

-- the same before a closing parenthesis
abbrev pub front_behind : ℕ → Tree → List ℕ → Result Front ℕ
front_behind count tree [] = Err count
front_behind count tree (c ∷ cs) = if c == 41 then Ok (record { tree = tree; before = count }) else Err count

-- a text begins with a term of so many characters, behind which this stands
pub record BeginsWith (text : List ℕ) (count : ℕ) (tree : Tree) (behind : List ℕ) : Type 0 where
  pub whole : read Ordinary text ≡ whole_behind count tree behind
  pub front : read_front Ordinary text ≡ front_behind count tree behind
  pub small : size tree ≤ most_parts
