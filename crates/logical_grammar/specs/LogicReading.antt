-- How a logical expression is read, character by character (this project): what is open, and above it a point, which steps
-- the automaton of arithmetic or of character expressions within operands. No public contract speaks of it.
use Rattle.std.specs.Prelude.{◌≡◌, ℕ, ◌+◌, ◌≤◌, ◌==◌, ◌&&◌, Bool, true, false, List, [], ◌∷◌, Option, Some, None, nat_le, option_map, option_and_then, if◌then◌else◌}
use Rattle.std.specs.Char.{to_ascii_uppercase}
use Rattle.hl_base.specs.Symbols.{is_symbol_character}
use Rattle.expression_grammar.specs.declared.character.Grammar.TheVariants.{Arithmetic}
use Rattle.expression_grammar.specs.declared.character.Kind.{Kind}
use Rattle.expression_grammar.specs.declared.character.Kind.TheVariants as kind
use Rattle.expression_grammar.specs.declared.tree.Operator.{Operator}
use Rattle.expression_grammar.specs.declared.tree.Operator.TheVariants.{And, Or, Xor}
use Rattle.expression_grammar.specs.declared.tree.Comparison.{Comparison}
use Rattle.expression_grammar.specs.declared.tree.Comparison.TheVariants.{Eq, Ne, Lt, Le, Gt, Ge}
use Rattle.expression_grammar.specs.Characters.{kind_of, strength}
use Rattle.expression_grammar.specs.Spelling.{Placed, placed}
use Rattle.expression_grammar.specs.Trees.{Tree, Pair, Paren, Not, Compared, size}
use Rattle.expression_grammar.specs.Reading as reading
use Rattle.expression_grammar.specs.Reading.{State, Want as WantTerm, Have}
use Rattle.character_grammar.specs.TextReading.{TextState, WantPart, WantQuote, text_step, text_accept, text_weight}

-- what is open: a NOT, an operator word with its left operand, a parenthesis where a truth was wanted
pub data Open : Type 0 where
  Negation : Open
  LeftOperand : (operator : Operator) (left : Tree) → Open
  Group : Open

-- a relation whose left side is read
pub record OpenRelation : Type 0 where
  pub comparison : Comparison
  pub left : Tree

-- Where the reader stands. A Bool `touch` says whether the character before is a symbol character.
pub data Point : Type 0 where
  -- a truth is wanted
  Want : (touch : Bool) → Point
  -- behind an N where a truth was wanted
  NotOrAttribute : (first : Placed) → Point
  -- within an operator word, with the letters that are to come
  Letters : (rest : List ℕ) → Point
  -- within a number, or behind it
  Number : (relation : Option OpenRelation) (inner : State) (touch : Bool) → Point
  -- within a text, or directly behind it
  Text : (relation : Option OpenRelation) (inner : TextState) (touch : Bool) → Point
  -- behind a text and blanks
  BehindText : (text : Tree) → Point
  -- behind the first letter of a comparison
  Comparing : (letter : ℕ) (is_text : Bool) (left : Tree) → Point
  -- the right side of a comparison is wanted
  Right : (is_text : Bool) (relation : OpenRelation) (touch : Bool) → Point
  -- directly behind the parenthesis that closes a number where a truth was wanted
  Closed : (inner : Tree) → Point
  -- behind a truth that is no number, and has no side to come
  BehindTruth : (tree : Tree) → Point

pub record LogicState : Type 0 where
  pub layers : List Open
  pub point : Point

abbrev pub at_point : List Open → Point → LogicState
at_point layers point = record { layers = layers; point = point }

-- What is whole at a point: a number, another truth, or a text.
pub data Operand : Type 0 where
  NumberOne : (tree : Tree) → Operand
  TruthOne : (tree : Tree) → Operand
  TextOne : (tree : Tree) → Operand

abbrev pub number_side : Option OpenRelation → Tree → Operand
number_side None tree = NumberOne tree
number_side (Some relation) tree = TruthOne (Compared relation.comparison relation.left tree)

abbrev pub text_side : Option OpenRelation → Tree → Operand
text_side None tree = TextOne tree
text_side (Some relation) tree = TruthOne (Compared relation.comparison relation.left tree)

abbrev pub settled : Point → Option Operand
settled (Number relation inner touch) = option_map (number_side relation) (reading.accept Arithmetic inner)
settled (Text relation inner touch) = option_map (text_side relation) (text_accept inner)
settled (BehindText text) = Some (TextOne text)
settled (Closed inner) = Some (NumberOne (Paren inner))
settled (BehindTruth tree) = Some (TruthOne tree)
settled _ = None

abbrev pub truth_of : Operand → Option Tree
truth_of (NumberOne tree) = Some tree
truth_of (TruthOne tree) = Some tree
truth_of (TextOne tree) = None

-- NOT, and the operators that bind at least as strongly as a number says, are closed
pub record LogicFolded : Type 0 where
  pub tree : Tree
  pub layers : List Open

abbrev pub logic_fold : ℕ → Tree → List Open → LogicFolded
logic_fold floor tree [] = record { tree = tree; layers = [] }
logic_fold floor tree (Negation ∷ layers) = logic_fold floor (Not tree) layers
logic_fold floor tree (LeftOperand operator left ∷ layers) =
    if nat_le floor (strength operator) then logic_fold floor (Pair operator left tree) layers
    else record { tree = tree; layers = LeftOperand operator left ∷ layers }
logic_fold floor tree (Group ∷ layers) = record { tree = tree; layers = Group ∷ layers }

-- Behind an operand.

-- a blank
abbrev pub blanked : Operand → Point
blanked (NumberOne tree) = Number None (Have tree []) false
blanked (TruthOne tree) = BehindTruth tree
blanked (TextOne tree) = BehindText tree

-- a closing parenthesis
abbrev pub grouped : Tree → List Open → Option LogicState
grouped tree (Group ∷ layers) = Some (at_point layers (BehindTruth (Paren tree)))
grouped tree layers = None

abbrev pub closing : Operand → List Open → Option LogicState
closing (NumberOne tree) (Group ∷ layers) = Some (at_point layers (Closed tree))
closing (NumberOne tree) layers = grouped (logic_fold 0 tree layers).tree (logic_fold 0 tree layers).layers
closing (TruthOne tree) layers = grouped (logic_fold 0 tree layers).tree (logic_fold 0 tree layers).layers
closing (TextOne tree) layers = None

-- the first letter of an operator
abbrev pub pushed : Operator → List ℕ → LogicFolded → LogicState
pushed operator rest folded = at_point (LeftOperand operator folded.tree ∷ folded.layers) (Letters rest)

abbrev pub joining : Operator → List ℕ → Option Tree → List Open → Option LogicState
joining operator rest None layers = None
joining operator rest (Some tree) layers = Some (pushed operator rest (logic_fold (strength operator) tree layers))

-- the first letter of a comparison
abbrev pub compares : ℕ → Bool
compares letter = if letter == 69 then true else (if letter == 78 then true else (if letter == 76 then true else letter == 71))

abbrev pub comparing : Operand → ℕ → List Open → Option LogicState
comparing (NumberOne tree) letter layers = if compares letter then Some (at_point layers (Comparing letter false tree)) else None
comparing (TextOne tree) letter layers = if compares letter then Some (at_point layers (Comparing letter true tree)) else None
comparing (TruthOne tree) letter layers = None

-- a letter
abbrev pub lettered : Operand → ℕ → List Open → Option LogicState
lettered operand letter layers =
    if letter == 65 then joining And (78 ∷ 68 ∷ []) (truth_of operand) layers
    else (if letter == 79 then joining Or (82 ∷ []) (truth_of operand) layers
    else (if letter == 88 then joining Xor (79 ∷ 82 ∷ []) (truth_of operand) layers
    else comparing operand letter layers))

abbrev pub behind_one : Operand → Bool → Kind → ℕ → List Open → Option LogicState
behind_one operand touch kind.Blank c layers = Some (at_point layers (blanked operand))
behind_one operand touch kind.Close c layers = closing operand layers
behind_one operand touch kind.Letter c layers = if touch then None else lettered operand (to_ascii_uppercase c) layers
behind_one operand touch _ c layers = None

abbrev pub behind : Option Operand → Bool → Placed → List Open → Option LogicState
behind None touch p layers = None
behind (Some operand) touch p layers = behind_one operand touch (kind_of p.code) p.code layers

-- Within an operand: on in it, or else behind it.

abbrev pub on_number : Option OpenRelation → Option State → Option Operand → Bool → Placed → List Open → Option LogicState
on_number relation (Some next) found touch p layers = Some (at_point layers (Number relation next (is_symbol_character p.code)))
on_number relation None found touch p layers = behind found touch p layers

abbrev pub on_text : Option OpenRelation → Option TextState → Option Operand → Bool → Placed → List Open → Option LogicState
on_text relation (Some next) found touch p layers = Some (at_point layers (Text relation next (is_symbol_character p.code)))
on_text relation None found touch p layers = behind found touch p layers

-- Where an operand is wanted.

-- a character that is no blank and does not touch a word begins a text, or else a number
abbrev pub number_begun : Option OpenRelation → Placed → List Open → Option LogicState
number_begun relation p layers = on_number relation (reading.step Arithmetic (WantTerm []) p) None false p layers

abbrev pub text_begun : Option OpenRelation → Placed → List Open → Option LogicState
text_begun relation p layers = on_text relation (text_step (WantPart None) p) None false p layers

abbrev pub letter_begun : ℕ → Placed → List Open → Option LogicState
letter_begun letter p layers =
    if letter == 78 then Some (at_point layers (NotOrAttribute p))
    else (if letter == 84 then text_begun None p layers
    else number_begun None p layers)

-- whether a character would touch the word before it
abbrev pub touching : Bool → Placed → Bool
touching touch p = touch && is_symbol_character p.code

abbrev pub truth_apart : Kind → Placed → List Open → Option LogicState
truth_apart kind.Blank p layers = Some (at_point layers (Want false))
truth_apart kind.Open p layers = Some (at_point (Group ∷ layers) (Want false))
truth_apart kind.Quote p layers = text_begun None p layers
truth_apart kind.Letter p layers = letter_begun (to_ascii_uppercase p.code) p layers
truth_apart _ p layers = number_begun None p layers

abbrev pub truth_begun : Bool → Placed → List Open → Option LogicState
truth_begun touch p layers = if touching touch p then None else truth_apart (kind_of p.code) p layers

abbrev pub right_apart : Bool → OpenRelation → Kind → Placed → List Open → Option LogicState
right_apart is_text relation kind.Blank p layers = Some (at_point layers (Right is_text relation false))
right_apart is_text relation _ p layers = if is_text then text_begun (Some relation) p layers else number_begun (Some relation) p layers

abbrev pub right_begun : Bool → OpenRelation → Bool → Placed → List Open → Option LogicState
right_begun is_text relation touch p layers = if touching touch p then None else right_apart is_text relation (kind_of p.code) p layers

-- behind an N: an attribute, or NOT
abbrev pub after_first : Placed → Kind → Placed → List Open → Option LogicState
after_first first kind.Quote p layers = on_number None (reading.run Arithmetic (WantTerm []) (first ∷ p ∷ [])) None false p layers
after_first first kind.Letter p layers = if to_ascii_uppercase p.code == 79 then Some (at_point (Negation ∷ layers) (Letters (84 ∷ []))) else None
after_first first _ p layers = None

-- Within a word.

abbrev pub spelling : List ℕ → Point
spelling [] = Want true
spelling (letter ∷ rest) = Letters (letter ∷ rest)

abbrev pub after_letters : List ℕ → ℕ → List Open → Option LogicState
after_letters [] letter layers = None
after_letters (wanted ∷ rest) letter layers = if letter == wanted then Some (at_point layers (spelling rest)) else None

-- the comparison of two letters
abbrev pub least_or : Comparison → Comparison → ℕ → Option Comparison
least_or strict wide letter = if letter == 84 then Some strict else (if letter == 69 then Some wide else None)

abbrev pub comparison_of : (first second : ℕ) → Option Comparison
comparison_of first second =
    if first == 69 then (if second == 81 then Some Eq else None)
    else (if first == 78 then (if second == 69 then Some Ne else None)
    else (if first == 76 then least_or Lt Le second
    else (if first == 71 then least_or Gt Ge second else None)))

abbrev pub after_comparing : Option Comparison → Bool → Tree → List Open → Option LogicState
after_comparing None is_text left layers = None
after_comparing (Some comparison) is_text left layers = Some (at_point layers (Right is_text (record { comparison = comparison; left = left }) true))

-- directly behind a number in parentheses, which may be the duplication factor of a text
abbrev pub after_closed : Tree → Kind → Placed → List Open → Option LogicState
after_closed inner kind.Quote p layers = on_text None (text_step (WantQuote None inner) p) None false p layers
after_closed inner k p layers = on_number None (reading.step Arithmetic (Have (Paren inner) []) p) (Some (NumberOne (Paren inner))) false p layers

-- a state with one character more, unless no logical expression goes on so
abbrev pub point_step : Point → Placed → List Open → Option LogicState
point_step (Want touch) p layers = truth_begun touch p layers
point_step (NotOrAttribute first) p layers = after_first first (kind_of p.code) p layers
point_step (Letters rest) p layers = after_letters rest (to_ascii_uppercase p.code) layers
point_step (Number relation inner touch) p layers = on_number relation (reading.step Arithmetic inner p) (settled (Number relation inner touch)) touch p layers
point_step (Text relation inner touch) p layers = on_text relation (text_step inner p) (settled (Text relation inner touch)) touch p layers
point_step (BehindText text) p layers = behind (Some (TextOne text)) false p layers
point_step (Comparing letter is_text left) p layers = after_comparing (comparison_of letter (to_ascii_uppercase p.code)) is_text left layers
point_step (Right is_text relation touch) p layers = right_begun is_text relation touch p layers
point_step (Closed inner) p layers = after_closed inner (kind_of p.code) p layers
point_step (BehindTruth tree) p layers = behind (Some (TruthOne tree)) false p layers

unfoldable pub logic_step : LogicState → Placed → Option LogicState
logic_step state p = point_step state.point p state.layers

-- the tree of a text that ends here
abbrev pub whole_over : Tree → List Open → Option Tree
whole_over tree [] = Some tree
whole_over tree layers = None

abbrev pub whole : List Open → Tree → Option Tree
whole layers tree = whole_over (logic_fold 0 tree layers).tree (logic_fold 0 tree layers).layers

unfoldable pub logic_accept : LogicState → Option Tree
logic_accept state = option_and_then (whole state.layers) (option_and_then truth_of (settled state.point))

-- How many terms, operators and pairs of parentheses each expression has at least that begins so.

abbrev pub one_size : Open → ℕ
one_size Negation = 1
one_size (LeftOperand operator left) = size left + 1
one_size Group = 1

abbrev pub open_size : List Open → ℕ
open_size [] = 0
open_size (one ∷ layers) = one_size one + open_size layers

abbrev pub relation_size : Option OpenRelation → ℕ
relation_size None = 0
relation_size (Some relation) = size relation.left + 1

-- a text that is compared with nothing yet has a comparison and a text to come
abbrev pub text_relation_size : Option OpenRelation → ℕ
text_relation_size None = 2
text_relation_size (Some relation) = size relation.left + 1

abbrev pub point_weight : Point → ℕ
point_weight (Want touch) = 1
point_weight (NotOrAttribute first) = 1
point_weight (Letters rest) = 1
point_weight (Number relation inner touch) = relation_size relation + reading.weight inner
point_weight (Text relation inner touch) = text_relation_size relation + text_weight inner
point_weight (BehindText text) = size text + 2
point_weight (Comparing letter is_text left) = size left + 2
point_weight (Right is_text relation touch) = size relation.left + 2
point_weight (Closed inner) = 1 + size inner
point_weight (BehindTruth tree) = size tree

abbrev pub logic_weight : LogicState → ℕ
logic_weight state = open_size state.layers + point_weight state.point

abbrev pub logic_run : LogicState → List Placed → Option LogicState
logic_run state [] = Some state
logic_run state (p ∷ ps) = option_and_then (λ next. logic_run next ps) (logic_step state p)

-- a state with one character more, unless no expression of at most so many terms, operators and parentheses goes on so
abbrev pub logic_kept : ℕ → LogicState → Option LogicState
logic_kept limit state = if nat_le (logic_weight state) limit then Some state else None

unfoldable pub logic_advance : ℕ → LogicState → Placed → Option LogicState
logic_advance limit state p = option_and_then (logic_kept limit) (logic_step state p)

-- a text leads to a state, within a limit
pub record LogicReaches (limit : ℕ) (text : List ℕ) (state : LogicState) : Type 0 where
  pub runs : logic_run (at_point [] (Want false)) (placed 0 text) ≡ Some state
  pub small : logic_weight state ≤ limit
