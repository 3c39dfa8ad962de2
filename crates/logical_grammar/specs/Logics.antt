-- Which texts a logical expression has (HLASM Language Reference SC26-4940, "Logical (SETB) expressions"). An operator is a
-- word in letters of either case, which no symbol character of an operand touches; blanks may stand around each operand.
use Rattle.std.specs.Prelude.{◌≡◌, ℕ, ◌<◌, ◌≤◌, ◌⊎◌, Bool, true, false, List, [], ◌∷◌, ◌++◌, IsTrue}
use Rattle.std.specs.Char.{to_ascii_uppercase}
use Rattle.hl_base.specs.Symbols.{is_symbol_character}
use Rattle.expression_grammar.specs.declared.character.Grammar.TheVariants.{Arithmetic}
use Rattle.expression_grammar.specs.declared.character.Kind.TheVariants.{Open, Close}
use Rattle.expression_grammar.specs.declared.tree.Operator.{Operator}
use Rattle.expression_grammar.specs.declared.tree.Operator.TheVariants.{And, Or, Xor}
use Rattle.expression_grammar.specs.declared.tree.Comparison.{Comparison}
use Rattle.expression_grammar.specs.declared.tree.Comparison.TheVariants.{Eq, Ne, Lt, Le, Gt, Ge}
use Rattle.expression_grammar.specs.Characters.{kind_of, strength}
use Rattle.expression_grammar.specs.Spelling.{Placed, placed, Gap, IsGap, IsOf, Reads, rank, spell}
use Rattle.expression_grammar.specs.Trees.{Tree, Pair, Paren, Not, Compared}
use Rattle.character_grammar.specs.Texts.{IsText, spell_text}

-- Operator words.

abbrev pub not_word : List ℕ
not_word = 78 ∷ 79 ∷ 84 ∷ []

-- the word of an operator between truths; the others have none
abbrev pub operator_word : Operator → List ℕ
operator_word And = 65 ∷ 78 ∷ 68 ∷ []
operator_word Or = 79 ∷ 82 ∷ []
operator_word Xor = 88 ∷ 79 ∷ 82 ∷ []
operator_word _ = []

abbrev pub is_logical : Operator → Bool
is_logical And = true
is_logical Or = true
is_logical Xor = true
is_logical _ = false

abbrev pub comparison_word : Comparison → List ℕ
comparison_word Eq = 69 ∷ 81 ∷ []
comparison_word Ne = 78 ∷ 69 ∷ []
comparison_word Lt = 76 ∷ 84 ∷ []
comparison_word Le = 76 ∷ 69 ∷ []
comparison_word Gt = 71 ∷ 84 ∷ []
comparison_word Ge = 71 ∷ 69 ∷ []

-- the characters of a text, letters as capitals
abbrev pub capitals : List Placed → List ℕ
capitals [] = []
capitals (p ∷ ps) = to_ascii_uppercase p.code ∷ capitals ps

-- whether the last character of a text is a symbol character, or, of an empty one, what is said of the character before it
abbrev pub touches_behind : Bool → List Placed → Bool
touches_behind before [] = before
touches_behind before (p ∷ ps) = touches_behind (is_symbol_character p.code) ps

-- whether the first one is
abbrev pub touches_ahead : List Placed → Bool
touches_ahead [] = false
touches_ahead (p ∷ ps) = is_symbol_character p.code

-- What operands and words make.

-- two operands with a word between them
pub record Joined (IsLeft : List Placed → Type 0) (word : List ℕ) (IsRight : List Placed → Type 0) (text : List Placed) : Type 0 where
  pub left : List Placed
  pub letters : List Placed
  pub right : List Placed
  pub all : text ≡ left ++ letters ++ right
  pub first : IsLeft left
  pub second : IsRight right
  pub named : capitals letters ≡ word
  pub apart_left : touches_behind false left ≡ false
  pub apart_right : touches_ahead right ≡ false

-- a NOT before an operand
pub record Negated (IsOperand : List Placed → Type 0) (text : List Placed) : Type 0 where
  pub before : List Placed
  pub letters : List Placed
  pub operand : List Placed
  pub all : text ≡ before ++ letters ++ operand
  pub blank : IsGap Arithmetic before
  pub named : capitals letters ≡ not_word
  pub is : IsOperand operand
  pub apart : touches_ahead operand ≡ false

-- an operand in parentheses
pub record Enclosed (IsInner : List Placed → Type 0) (text : List Placed) : Type 0 where
  pub before : List Placed
  pub opening : Placed
  pub inner : List Placed
  pub closing : Placed
  pub behind : List Placed
  pub all : text ≡ before ++ opening ∷ (inner ++ closing ∷ behind)
  pub blank_before : IsGap Arithmetic before
  pub blank_behind : IsGap Arithmetic behind
  pub opens : kind_of opening.code ≡ Open
  pub closes : kind_of closing.code ≡ Close
  pub is : IsInner inner

-- Operands, with blanks around them.

-- an arithmetic expression
pub record IsNumber (tree : Tree) (text : List Placed) : Type 0 where
  pub fits : IsOf Arithmetic tree
  pub reads : Reads Arithmetic (Gap ∷ spell tree (Gap ∷ [])) text

-- a character expression
pub record IsCharacters (tree : Tree) (text : List Placed) : Type 0 where
  pub before : List Placed
  pub core : List Placed
  pub behind : List Placed
  pub all : text ≡ before ++ core ++ behind
  pub blank_before : IsGap Arithmetic before
  pub blank_behind : IsGap Arithmetic behind
  pub fits : IsText tree
  pub reads : Reads Arithmetic (spell_text tree []) core

-- What operators make of numbers, texts and truths, with blanks around it. NOT binds more strongly than AND, this more
-- strongly than OR, this more strongly than XOR, equal ones join from the left; comparisons bind most strongly, and do not
-- chain. A number in parentheses is a number still.
abbrev pub IsLogical : Tree → List Placed → Type 0
IsLogical (Pair operator left right) text =
    IsTrue (is_logical operator) × (strength operator ≤ rank left) × (strength operator < rank right)
    × Joined (λ part. IsNumber left part ⊎ IsLogical left part) (operator_word operator) (λ part. IsNumber right part ⊎ IsLogical right part) text
IsLogical (Not operand) text = (3 ≤ rank operand) × Negated (λ part. IsNumber operand part ⊎ IsLogical operand part) text
IsLogical (Compared comparison left right) text =
    Joined (IsNumber left) (comparison_word comparison) (IsNumber right) text ⊎ Joined (IsCharacters left) (comparison_word comparison) (IsCharacters right) text
IsLogical (Paren inner) text = Enclosed (IsLogical inner) text
IsLogical other text = ⊥

-- a truth: a number, or a logical expression that is none
abbrev pub IsTruth : Tree → List Placed → Type 0
IsTruth tree text = IsNumber tree text ⊎ IsLogical tree text

-- a text is a logical expression, and this is its tree
abbrev pub SpellsLogic : List ℕ → Tree → Type 0
SpellsLogic text tree = IsTruth tree (placed 0 text)
