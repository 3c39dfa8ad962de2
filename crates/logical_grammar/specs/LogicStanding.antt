-- What a reader of logical expressions knows of the text so far (this project). No public contract speaks of it.
use Rattle.std.specs.Prelude.{◌≡◌, ℕ, ◌<◌, ◌≤◌, ◌&&◌, Bool, true, false, List, [], ◌∷◌, ◌++◌, Option, Some, None, IsTrue}
use Rattle.std.specs.Char.{to_ascii_uppercase}
use Rattle.expression_grammar.specs.declared.character.Grammar.TheVariants.{Arithmetic}
use Rattle.expression_grammar.specs.declared.character.Kind.TheVariants as kind
use Rattle.expression_grammar.specs.Characters.{kind_of, strength}
use Rattle.expression_grammar.specs.Spelling.{Placed, Gap, One, IsGap, IsOf, Reads, rank, spell}
use Rattle.expression_grammar.specs.Reading as reading
use Rattle.expression_grammar.specs.Trees.{Tree}
use Rattle.logical_grammar.specs.Logics.{IsNumber, IsCharacters, IsTruth, IsLogical, Joined, Negated, operator_word, comparison_word, is_logical, not_word, capitals, touches_behind}
use Rattle.logical_grammar.specs.LogicReading.{Open, Negation, LeftOperand, Group, OpenRelation, Point, Want, NotOrAttribute, Letters, Number, Text, BehindText, Comparing, Right, Closed, BehindTruth, LogicState, compares}
use Rattle.character_grammar.specs.TextStanding.{TextHolds}
use Rattle.character_grammar.specs.TextReading.{TextState}

-- What is open.

-- whether a tree of this rank may stand above what is open
abbrev pub Takes : List Open → ℕ → Type 0
Takes [] rank = Unit {0}
Takes (Negation ∷ layers) rank = 3 ≤ rank
Takes (LeftOperand operator left ∷ layers) rank = strength operator < rank
Takes (Group ∷ layers) rank = Unit {0}

abbrev pub AreOpen : List Open → Type 0
AreOpen [] = Unit {0}
AreOpen (Negation ∷ layers) = AreOpen layers
AreOpen (LeftOperand operator left ∷ layers) = IsTrue (is_logical operator) × (strength operator ≤ rank left) × Takes layers (strength operator) × AreOpen layers
AreOpen (Group ∷ layers) = AreOpen layers

-- an opening parenthesis, and what stands behind it
pub record Opened (IsInner : List Placed → Type 0) (text : List Placed) : Type 0 where
  pub before : List Placed
  pub opening : Placed
  pub inner : List Placed
  pub all : text ≡ before ++ opening ∷ inner
  pub blank : IsGap Arithmetic before
  pub opens : kind_of opening.code ≡ kind.Open
  pub is : IsInner inner

-- a text is what is open, and then something else
abbrev pub Under : List Open → (List Placed → Type 0) → List Placed → Type 0
Under [] IsRest text = IsRest text
Under (Negation ∷ layers) IsRest text = Under layers (Negated IsRest) text
Under (LeftOperand operator left ∷ layers) IsRest text = Under layers (Joined (IsTruth left) (operator_word operator) IsRest) text
Under (Group ∷ layers) IsRest text = Under layers (Opened IsRest) text

-- whether a word is the last that is open
abbrev pub behind_word : List Open → Bool
behind_word [] = false
behind_word (Negation ∷ layers) = true
behind_word (LeftOperand operator left ∷ layers) = true
behind_word (Group ∷ layers) = false

-- Points.

abbrev pub is_empty : List Placed → Bool
is_empty [] = true
is_empty (p ∷ ps) = false

-- a text, begun behind blanks
pub record Begun (inner : TextState) (text : List Placed) : Type 0 where
  pub before : List Placed
  pub core : List Placed
  pub all : text ≡ before ++ core
  pub blank : IsGap Arithmetic before
  pub holds : TextHolds inner core

-- a number in parentheses, behind blanks
pub record Parenthesized (inner : Tree) (text : List Placed) : Type 0 where
  pub before : List Placed
  pub core : List Placed
  pub all : text ≡ before ++ core
  pub blank : IsGap Arithmetic before
  pub fits : IsOf Arithmetic inner
  pub reads : Reads Arithmetic (One kind.Open ∷ Gap ∷ spell inner (Gap ∷ One kind.Close ∷ [])) core

abbrev pub IsSide : Bool → Tree → List Placed → Type 0
IsSide false tree text = IsNumber tree text
IsSide true tree text = IsCharacters tree text

-- what is compared and the first letter of a comparison
pub record Initial (letter : ℕ) (is_text : Bool) (left : Tree) (text : List Placed) : Type 0 where
  pub side : List Placed
  pub first : Placed
  pub all : text ≡ side ++ first ∷ []
  pub is : IsSide is_text left side
  pub apart : touches_behind false side ≡ false
  pub named : to_ascii_uppercase first.code ≡ letter

-- a comparison with its left side, and then something else
abbrev pub Behind : Bool → Option OpenRelation → (List Placed → Type 0) → List Placed → Type 0
Behind is_text None IsRest text = IsRest text
Behind is_text (Some relation) IsRest text = Joined (IsSide is_text relation.left) (comparison_word relation.comparison) IsRest text

-- what is read at a point
abbrev pub PointReads : (behind_word : Bool) → Point → List Placed → Type 0
PointReads word (Want touch) text = IsGap Arithmetic text × (touch ≡ (word && is_empty text))
PointReads word (NotOrAttribute first) text = (before : List Placed) × (text ≡ before ++ first ∷ []) × IsGap Arithmetic before × (to_ascii_uppercase first.code ≡ 78)
PointReads word (Letters rest) text = ⊥
PointReads word (Number relation inner touch) text = Behind false relation (λ part. reading.Holds Arithmetic inner part × (is_empty part ≡ false)) text × (touch ≡ touches_behind false text)
PointReads word (Text relation inner touch) text = Behind true relation (λ part. Begun inner part × (is_empty part ≡ false)) text × (touch ≡ touches_behind false text)
PointReads word (BehindText tree) text = IsCharacters tree text × (touches_behind false text ≡ false)
PointReads word (Comparing letter is_text left) text = (compares letter ≡ true) × Initial letter is_text left text
PointReads word (Right is_text relation touch) text = Behind is_text (Some relation) (λ part. IsGap Arithmetic part × (touch ≡ is_empty part)) text
PointReads word (Closed inner) text = Parenthesized inner text × (touches_behind false text ≡ false)
PointReads word (BehindTruth tree) text = IsLogical tree text × (4 ≤ rank tree) × (touches_behind false text ≡ false)

-- letters of an operator word, behind which others are to come
pub record Partly (IsLeft : List Placed → Type 0) (word rest : List ℕ) (text : List Placed) : Type 0 where
  pub left : List Placed
  pub letters : List Placed
  pub all : text ≡ left ++ letters
  pub first : IsLeft left
  pub some : is_empty letters ≡ false
  pub named : capitals letters ++ rest ≡ word

abbrev pub WordReads : List Open → List ℕ → List Placed → Type 0
WordReads (Negation ∷ layers) rest text = Under layers (Partly (IsGap Arithmetic) not_word rest) text
WordReads (LeftOperand operator left ∷ layers) rest text = Under layers (Partly (λ part. IsTruth left part × (touches_behind false part ≡ false)) (operator_word operator) rest) text
WordReads layers rest text = ⊥

abbrev pub StateReads : List Open → Point → List Placed → Type 0
StateReads layers (Letters rest) text = WordReads layers rest text
StateReads layers point text = Under layers (PointReads (behind_word layers) point) text

-- what a state knows of the text so far
pub record LogicHolds (state : LogicState) (text : List Placed) : Type 0 where
  pub ordered : AreOpen state.layers
  pub reads : StateReads state.layers state.point text
