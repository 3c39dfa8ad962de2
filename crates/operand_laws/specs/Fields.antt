-- Which texts are right operands of conditional assembly (HLASM Language Reference SC26-4940, "Symbols", "Sequence symbols",
-- "COPY instruction", "GBLA, GBLB, and GBLC instructions", "LCLA, LCLB, and LCLC instructions", "AIF instruction", "Computed AGO
-- instruction", "MNOTE instruction").
use Rattle.std.specs.Prelude.{◌≡◌, ℕ, ◌<◌, true, List, [], ◌∷◌, ◌++◌, length}
use Rattle.std.specs.List.{list_all}
use Rattle.std.specs.Char.{is_ascii_digit}
use Rattle.hl_base.specs.Symbols.{is_symbol}
use Rattle.expression_grammar.specs.declared.character.Grammar.TheVariants.{Arithmetic}
use Rattle.expression_grammar.specs.Spelling.{IsExpression, Spells, most_parts}
use Rattle.expression_grammar.specs.Trees.{Tree}
use Rattle.character_grammar.specs.Texts.{SpellsText}
use Rattle.conditional_fields.specs.declared.front.Sought.{Sought}
use Rattle.conditional_fields.specs.Branches.{IsChoice}

-- an ordinary symbol, which is the name of a member too
abbrev pub IsName : List ℕ → Type 0
IsName text = is_symbol text ≡ true

-- a sequence symbol: a period (46) and an ordinary symbol
pub record IsSequence (text : List ℕ) : Type 0 where
  pub rest : List ℕ
  pub begins : text ≡ 46 ∷ rest
  pub name : IsName rest

-- the size of an array without the opening parenthesis: digits, one at least, and the closing parenthesis (41)
pub record IsSize (text : List ℕ) : Type 0 where
  pub digits : List ℕ
  pub ends : text ≡ digits ++ 41 ∷ []
  pub all : list_all is_ascii_digit digits ≡ true
  pub some : 0 < length digits

-- what stands behind the name of a SET symbol that is declared: nothing, or an opening parenthesis (40) and the size of an array
pub data IsBehindName (text : List ℕ) : Type 0 where
  nothing : text ≡ [] → IsBehindName text
  array : (size : List ℕ) → text ≡ 40 ∷ size → IsSize size → IsBehindName text

-- a name and what stands behind it
pub record IsVariable (text : List ℕ) : Type 0 where
  pub name : List ℕ
  pub behind : List ℕ
  pub parts : text ≡ name ++ behind
  pub named : IsName name
  pub fits : IsBehindName behind

-- a declaration: an ampersand (38), a name and what stands behind it
pub record IsDeclared (text : List ℕ) : Type 0 where
  pub rest : List ℕ
  pub begins : text ≡ 38 ∷ rest
  pub variable : IsVariable rest

-- an operand of AIF, or the first one of a computed AGO: an opening parenthesis, a condition or a number up to the first closing
-- parenthesis at which it is one, and a sequence symbol
pub record IsChoosing (sought : Sought) (text : List ℕ) : Type 0 where
  pub rest : List ℕ
  pub begins : text ≡ 40 ∷ rest
  pub tree : Tree
  pub label : List ℕ
  pub choice : IsChoice sought text tree label

-- the severity of an MNOTE: nothing, an asterisk (42), or an arithmetic expression
pub data IsSeverity (text : List ℕ) : Type 0 where
  omitted : text ≡ [] → IsSeverity text
  asterisk : text ≡ 42 ∷ [] → IsSeverity text
  number : (tree : Tree) → IsExpression (Spells Arithmetic) most_parts text tree → IsSeverity text

-- the message of an MNOTE: a character expression
pub record IsMessage (text : List ℕ) : Type 0 where
  pub tree : Tree
  pub expression : IsExpression SpellsText most_parts text tree
