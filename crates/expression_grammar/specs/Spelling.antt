-- Which texts an expression has (HLASM Language Reference SC26-4940, "Arithmetic (SETA) expressions", "Expressions",
-- "Self-defining terms", "Variable symbols"). A tree is written as a list of pieces, and each piece has its texts.
use Rattle.std.specs.Prelude.{◌≡◌, ℕ, ◌+◌, ◌*◌, ◌<◌, ◌≤◌, ◌⊎◌, Bool, true, false, List, [], ◌∷◌, ◌++◌, length, take, Some, IsTrue}
use Rattle.std.specs.List.{list_all}
use Rattle.std.specs.Char.{digit_value, is_digit, to_ascii_uppercase}
use Rattle.hl_base.specs.Symbols.{symbol_of}
use Rattle.expression_grammar.specs.declared.character.Grammar.{Grammar}
use Rattle.expression_grammar.specs.declared.character.Grammar.TheVariants.{Arithmetic, Ordinary as OrdinaryOne}
use Rattle.expression_grammar.specs.declared.character.Kind.{Kind}
use Rattle.expression_grammar.specs.declared.character.Kind.TheVariants.{Mark, Open, Close, Comma, Blank, Quote, Ampersand}
use Rattle.expression_grammar.specs.declared.tree.Form.{Form}
use Rattle.expression_grammar.specs.declared.tree.Form.TheVariants.{Decimal, Hexadecimal, Binary, Character}
use Rattle.expression_grammar.specs.declared.tree.Attribute.{Attribute}
use Rattle.expression_grammar.specs.declared.tree.Attribute.TheVariants as attribute
use Rattle.expression_grammar.specs.declared.tree.Reference.{Reference}
use Rattle.expression_grammar.specs.declared.tree.Reference.TheVariants.{Value, Of}
use Rattle.expression_grammar.specs.declared.tree.Symbol.{Symbol}
use Rattle.expression_grammar.specs.Characters.{kind_of, mark_of, letter_of, strength}
use Rattle.hl_base.specs.Order.{ebcdic}
use Rattle.expression_grammar.specs.Trees.{Tree, Trees, Number, Here, Ordinary, Variable, Signed, Pair, Paren, Not, Compared, NoTrees, More, size}
use Rattle.expression_grammar.specs.declared.tree.Operator.TheVariants.{Multiply}

-- a character, and its place in the text
pub record Placed : Type 0 where
  pub at : ℕ
  pub code : ℕ

-- the characters of a text with their places, from this place on
abbrev pub placed : ℕ → List ℕ → List Placed
placed at [] = []
placed at (c ∷ cs) = record { at = at; code = c } ∷ placed (at + 1) cs

-- the characters without their places
abbrev pub codes : List Placed → List ℕ
codes [] = []
codes (p ∷ ps) = p.code ∷ codes ps

-- Numbers.

-- the base of a number
abbrev pub base_of : Form → ℕ
base_of Decimal = 10
base_of Hexadecimal = 16
base_of Binary = 2
base_of Character = 256

-- how many digits or characters a self-defining term has at most
abbrev pub most_of : Form → ℕ
most_of Decimal = 10
most_of Hexadecimal = 8
most_of Binary = 32
most_of Character = 4

-- the greatest number: a decimal term has 31 bits, the others 32
abbrev pub greatest_of : Form → ℕ
greatest_of Decimal = 2147483647
greatest_of Hexadecimal = 4294967295
greatest_of Binary = 4294967295
greatest_of Character = 4294967295

-- the digits of a form
abbrev pub is_figure : Form → ℕ → Bool
is_figure form c = is_digit c (base_of form)

-- the number that digits write behind those of a number
abbrev pub figures : Form → ℕ → List ℕ → ℕ
figures form number [] = number
figures form number (c ∷ cs) = figures form (number * base_of form + digit_value c) cs

-- the number that the bytes of characters make behind those of a number
abbrev pub bytes_of : ℕ → List ℕ → ℕ
bytes_of number [] = number
bytes_of number (c ∷ cs) = bytes_of (number * 256 + ebcdic c) cs

-- an apostrophe and an ampersand are written twice in a character term
abbrev pub twice : Kind → ℕ → List ℕ → List ℕ
twice Quote c cs = c ∷ c ∷ cs
twice Ampersand c cs = c ∷ c ∷ cs
twice _ c cs = c ∷ cs

abbrev pub doubled : List ℕ → List ℕ
doubled [] = []
doubled (c ∷ cs) = twice (kind_of c) c (doubled cs)

-- an apostrophe is written twice in a quoted text
abbrev pub quoted_one : Kind → ℕ → List ℕ → List ℕ
quoted_one Quote c cs = c ∷ c ∷ cs
quoted_one _ c cs = c ∷ cs

abbrev pub quoted : List ℕ → List ℕ
quoted [] = []
quoted (c ∷ cs) = quoted_one (kind_of c) c (quoted cs)

-- Pieces.

pub data Piece : Type 0 where
  Gap : Piece
  One : (wanted : Kind) → Piece
  Capital : (letter : ℕ) → Piece
  Run : (form : Form) (count number : ℕ) → Piece
  Digits : (form : Form) (number : ℕ) → Piece
  Body : (count number : ℕ) → Piece
  Characters : (number : ℕ) → Piece
  Sigil : (place : ℕ) → Piece
  Letters : (name : List ℕ) → Piece
  Word : (place : ℕ) (name : List ℕ) → Piece
  Plainly : (characters : List ℕ) → Piece
  Join : (must : Bool) → Piece
  Period : Piece

-- whether blanks may stand between the tokens of an expression
abbrev pub has_blanks : Grammar → Bool
has_blanks Arithmetic = true
has_blanks OrdinaryOne = false

-- blanks, where the grammar has them
abbrev pub IsGap : Grammar → List Placed → Type 0
IsGap g [] = Unit {0}
IsGap g (p ∷ ps) = IsTrue (has_blanks g) × (kind_of p.code ≡ Blank) × IsGap g ps

-- one character of a kind
pub record IsOne (wanted : Kind) (text : List Placed) : Type 0 where
  pub one : Placed
  pub only : text ≡ one ∷ []
  pub kind : kind_of one.code ≡ wanted

-- one letter, in either case
pub record IsCapital (letter : ℕ) (text : List Placed) : Type 0 where
  pub one : Placed
  pub only : text ≡ one ∷ []
  pub upper : to_ascii_uppercase one.code ≡ letter

-- so many digits, which write a number
pub record IsRun (form : Form) (count number : ℕ) (text : List Placed) : Type 0 where
  pub all : list_all (is_figure form) (codes text) ≡ true
  pub counted : length text ≡ count
  pub valued : figures form 0 (codes text) ≡ number

-- one digit at least, no more than the form has, and a number that is not too great
pub record IsDigits (form : Form) (number : ℕ) (text : List Placed) : Type 0 where
  pub count : ℕ
  pub some : 0 < count
  pub few : count ≤ most_of form
  pub small : number ≤ greatest_of form
  pub run : IsRun form count number text

-- so many characters, with apostrophes and ampersands twice
pub record IsBody (count number : ℕ) (text : List Placed) : Type 0 where
  pub characters : List ℕ
  pub written : codes text ≡ doubled characters
  pub counted : length characters ≡ count
  pub valued : bytes_of 0 characters ≡ number

-- one to four characters, whose bytes make a number of 32 bits
pub record IsCharacters (number : ℕ) (text : List Placed) : Type 0 where
  pub count : ℕ
  pub some : 0 < count
  pub few : count ≤ 4
  pub small : number ≤ greatest_of Character
  pub body : IsBody count number text

-- the `&` at a place
pub record IsSigil (place : ℕ) (text : List Placed) : Type 0 where
  pub one : Placed
  pub only : text ≡ one ∷ []
  pub kind : kind_of one.code ≡ Ampersand
  pub here : one.at ≡ place

-- a symbol that begins at a place
pub record IsWord (place : ℕ) (name : List ℕ) (text : List Placed) : Type 0 where
  pub first : Placed
  pub others : List Placed
  pub both : text ≡ first ∷ others
  pub here : first.at ≡ place
  pub named : symbol_of (codes text) ≡ Some name

-- a period, which may be left out
abbrev pub IsJoin : Bool → List ℕ → Type 0
IsJoin true text = text ≡ 46 ∷ []
IsJoin false text = (text ≡ []) ⊎ (text ≡ 46 ∷ [])

-- the texts of a piece
abbrev pub IsPiece : Grammar → Piece → List Placed → Type 0
IsPiece g Gap text = IsGap g text
IsPiece g (One wanted) text = IsOne wanted text
IsPiece g (Capital letter) text = IsCapital letter text
IsPiece g (Run form count number) text = IsRun form count number text
IsPiece g (Digits form number) text = IsDigits form number text
IsPiece g (Body count number) text = IsBody count number text
IsPiece g (Characters number) text = IsCharacters number text
IsPiece g (Sigil place) text = IsSigil place text
IsPiece g (Letters name) text = symbol_of (codes text) ≡ Some name
IsPiece g (Word place name) text = IsWord place name text
IsPiece g (Plainly characters) text = codes text ≡ quoted characters
IsPiece g (Join must) text = IsJoin must (codes text)
IsPiece g Period text = codes text ≡ 46 ∷ []

-- a text is these pieces, one after the other
abbrev pub Reads : Grammar → List Piece → List Placed → Type 0
Reads g [] text = text ≡ []
Reads g (piece ∷ pieces) text = (front : List Placed) × (back : List Placed) × (text ≡ front ++ back) × IsPiece g piece front × Reads g pieces back

-- Trees.

-- a self-defining term, before other pieces
abbrev pub number_spelled : Form → ℕ → List Piece → List Piece
number_spelled Decimal bits after = Digits Decimal bits ∷ after
number_spelled Hexadecimal bits after = Capital 88 ∷ One Quote ∷ Digits Hexadecimal bits ∷ One Quote ∷ after
number_spelled Binary bits after = Capital 66 ∷ One Quote ∷ Digits Binary bits ∷ One Quote ∷ after
number_spelled Character bits after = Capital 67 ∷ One Quote ∷ Characters bits ∷ One Quote ∷ after

-- what asks for an attribute, or nothing
abbrev pub asked_spelled : Reference → List Piece → List Piece
asked_spelled Value after = after
asked_spelled (Of asked) after = Capital (letter_of asked) ∷ One Quote ∷ after

-- a variable symbol without its subscripts
abbrev pub variable_spelled : Reference → Symbol → List Piece → List Piece
variable_spelled asked symbol after = asked_spelled asked (Sigil symbol.at ∷ Letters symbol.name ∷ after)

-- The pieces of a tree, before other pieces. What is left out belongs to logical and character expressions, which neither
-- grammar has (`IsOf`).
abbrev mutual
  pub spell : Tree → List Piece → List Piece
  spell (Number form bits) after = number_spelled form bits after
  spell Here after = One (Mark Multiply) ∷ after
  spell (Ordinary asked symbol) after = asked_spelled asked (Word symbol.at symbol.name ∷ after)
  spell (Variable asked symbol subscripts) after = variable_spelled asked symbol (spell_subscripts subscripts after)
  spell (Signed sign operand) after = One (Mark (mark_of sign)) ∷ Gap ∷ spell operand after
  spell (Pair operator left right) after = spell left (Gap ∷ One (Mark operator) ∷ Gap ∷ spell right after)
  spell (Paren inner) after = One Open ∷ Gap ∷ spell inner (Gap ∷ One Close ∷ after)
  spell other after = after

  -- subscripts in parentheses, with commas between them; nothing where there is none
  pub spell_subscripts : Trees → List Piece → List Piece
  spell_subscripts NoTrees after = after
  spell_subscripts (More others last) after = begin_subscripts others (Gap ∷ spell last (Gap ∷ One Close ∷ after))

  -- subscripts up to where the next one begins
  pub begin_subscripts : Trees → List Piece → List Piece
  begin_subscripts NoTrees after = One Open ∷ after
  begin_subscripts (More others last) after = begin_subscripts others (Gap ∷ spell last (Gap ∷ One Comma ∷ after))

-- how strongly the outermost operator of a tree binds
abbrev pub rank : Tree → ℕ
rank (Pair operator left right) = strength operator
rank (Not operand) = 3
rank (Compared comparison left right) = 4
rank other = 7

-- whether an attribute may be asked of an ordinary symbol, and of a variable symbol
abbrev pub asks_of_symbol : Grammar → Attribute → Bool
asks_of_symbol g attribute.Length = true
asks_of_symbol Arithmetic attribute.Defined = true
asks_of_symbol g other = false

abbrev pub asks_of_variable : Attribute → Bool
asks_of_variable attribute.Type = false
asks_of_variable other = true

abbrev pub is_ordinary : Grammar → Bool
is_ordinary Arithmetic = false
is_ordinary OrdinaryOne = true

abbrev pub may_name : Grammar → Reference → Bool
may_name g Value = is_ordinary g
may_name g (Of asked) = asks_of_symbol g asked

abbrev pub may_vary : Grammar → Reference → Bool
may_vary OrdinaryOne asked = false
may_vary Arithmetic Value = true
may_vary Arithmetic (Of asked) = asks_of_variable asked

-- Which trees a grammar has: none of logical and character expressions; an operand on the left binds at least as strongly as the operator, one on the right more
-- strongly, and a sign stands before a term, a sign or a parenthesis.
abbrev mutual
  pub IsOf : Grammar → Tree → Type 0
  IsOf g (Number form bits) = Unit {0}
  IsOf g Here = IsTrue (is_ordinary g)
  IsOf g (Ordinary asked symbol) = IsTrue (may_name g asked)
  IsOf g (Variable asked symbol subscripts) = IsTrue (may_vary g asked) × AreOf g subscripts
  IsOf g (Signed sign operand) = IsOf g operand × (7 ≤ rank operand)
  IsOf g (Pair operator left right) = IsOf g left × IsOf g right × (strength operator ≤ rank left) × (strength operator < rank right)
  IsOf g (Paren inner) = IsOf g inner
  IsOf g other = ⊥

  pub AreOf : Grammar → Trees → Type 0
  AreOf g NoTrees = Unit {0}
  AreOf g (More others last) = AreOf g others × IsOf g last

-- Expressions.

-- a text is a tree, written out
pub record Spells (g : Grammar) (text : List ℕ) (tree : Tree) : Type 0 where
  pub fits : IsOf g tree
  pub reads : Reads g (Gap ∷ spell tree (Gap ∷ [])) (placed 0 text)

-- a text is an expression of at most so many terms, operators and pairs of parentheses, and this is its tree
pub record IsExpression (Written : List ℕ → Tree → Type 0) (limit : ℕ) (text : List ℕ) (tree : Tree) : Type 0 where
  pub spells : Written text tree
  pub small : size tree ≤ limit

-- some expression begins with a text
pub record IsViable (Written : List ℕ → Tree → Type 0) (limit : ℕ) (text : List ℕ) : Type 0 where
  pub rest : List ℕ
  pub tree : Tree
  pub expression : IsExpression Written limit (text ++ rest) tree

-- A text is no expression, and the longest prefix of it that some expression begins with has so many characters.
pub record IsAt (Written : List ℕ → Tree → Type 0) (limit : ℕ) (text : List ℕ) (count : ℕ) : Type 0 where
  pub within : count ≤ length text
  pub viable : IsViable Written limit (take count text)
  pub longest : (more : ℕ) → count < more → more ≤ length text → IsViable Written limit (take more text) → ⊥
  pub none : (tree : Tree) → IsExpression Written limit text tree → ⊥

-- how many terms, operators and pairs of parentheses an expression has at most
abbrev pub most_parts : ℕ
most_parts = 1000
