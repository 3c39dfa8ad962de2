-- What the reader of logical expressions holds, as a state (this project). No public contract speaks of it.
use Rattle.std.specs.Prelude.{◌≡◌, ℕ, ◌+◌, ◌&&◌, Bool, true, false, List, [], ◌∷◌, length, Option, Some, None, nat_lt, not, option_map}
use Rattle.expression_grammar.specs.declared.character.Kind.{Kind}
use Rattle.expression_grammar.specs.declared.character.Kind.TheVariants as kind
use Rattle.expression_grammar.specs.declared.part.Part.{Part}
use Rattle.expression_grammar.specs.declared.part.Part.TheVariants.{Property, Named}
use Rattle.expression_grammar.specs.declared.pending.Point.{Point}
use Rattle.expression_grammar.specs.declared.pending.Point.TheVariants as inner
use Rattle.character_grammar.specs.declared.text_point.TextPoint.{TextPoint}
use Rattle.character_grammar.specs.declared.text_point.TextPoint.TheVariants as text
use Rattle.logical_grammar.specs.declared.logic_point.Opening.{Opening}
use Rattle.logical_grammar.specs.declared.logic_point.Opening.TheVariants as opening
use Rattle.logical_grammar.specs.declared.logic_point.OpenRelation.{OpenRelation}
use Rattle.logical_grammar.specs.declared.logic_point.Remainder.{Remainder}
use Rattle.logical_grammar.specs.declared.logic_point.Remainder.TheVariants as remainder
use Rattle.logical_grammar.specs.declared.logic_point.Initial.{Initial}
use Rattle.logical_grammar.specs.declared.logic_point.Initial.TheVariants as initial
use Rattle.logical_grammar.specs.declared.logic_point.LogicPoint.{LogicPoint}
use Rattle.logical_grammar.specs.declared.logic_point.LogicPoint.TheVariants as point
use Rattle.logical_grammar.specs.declared.logic_point.Operand.{Operand}
use Rattle.logical_grammar.specs.declared.logic_point.Operand.TheVariants as operand
use Rattle.logical_grammar.specs.declared.logic_point.LogicMoved.{LogicMoved}
use Rattle.logical_grammar.specs.declared.logic_behind.LogicClosing.{LogicClosing}
use Rattle.logical_grammar.specs.declared.logic_behind.LogicClosing.TheVariants as closing
use Rattle.expression_grammar.specs.Trees.{size}
use Rattle.expression_grammar.specs.Views.{tree_of}
use Rattle.expression_grammar.specs.Stacks.{stack_of, stand}
use Rattle.character_grammar.specs.TextViews.{text_state}
use Rattle.logical_grammar.specs.LogicReading as logic
use Rattle.logical_grammar.specs.LogicReading.{Open, LogicState, LogicFolded, logic_fold, at_point, logic_weight}

-- something open
abbrev pub opening_of : Opening → Open
opening_of opening.Negation = logic.Negation
opening_of (opening.LeftOperand operator left) = logic.LeftOperand operator (tree_of left)
opening_of opening.Group = logic.Group

-- what a stack holds, whose last is the topmost, above other things
abbrev pub open_of : List Opening → List Open → List Open
open_of [] below = below
open_of (one ∷ rest) below = open_of rest (opening_of one ∷ below)

-- what is left to fold, with the topmost open thing closed or kept
abbrev pub closed_on : ℕ → LogicClosing → List Open → LogicFolded
closed_on floor (closing.Folded tree) below = logic_fold floor (tree_of tree) below
closed_on floor (closing.Kept kept tree) below = record { tree = tree_of tree; layers = opening_of kept ∷ below }

abbrev pub relation_of : OpenRelation → logic.OpenRelation
relation_of relation = record { comparison = relation.comparison; left = tree_of relation.left }

abbrev pub letters_of : Remainder → List ℕ
letters_of remainder.Nd = 78 ∷ 68 ∷ []
letters_of remainder.D = 68 ∷ []
letters_of remainder.Or = 79 ∷ 82 ∷ []
letters_of remainder.R = 82 ∷ []
letters_of remainder.T = 84 ∷ []

abbrev pub letter_of : Initial → ℕ
letter_of initial.E = 69
letter_of initial.N = 78
letter_of initial.L = 76
letter_of initial.G = 71

abbrev pub point_of : LogicPoint → logic.Point
point_of (point.Want touch) = logic.Want touch
point_of (point.NotOrAttribute first place) = logic.NotOrAttribute (record { at = place; code = first })
point_of (point.Letters rest) = logic.Letters (letters_of rest)
point_of (point.Number relation inner above touch) = logic.Number (option_map relation_of relation) (stand inner (stack_of above.items [])) touch
point_of (point.Text relation inner touch) = logic.Text (option_map relation_of relation) (text_state inner) touch
point_of (point.BehindText tree) = logic.BehindText (tree_of tree)
point_of (point.Comparing letter is_text left) = logic.Comparing (letter_of letter) is_text (tree_of left)
point_of (point.Right is_text relation touch) = logic.Right is_text (relation_of relation) touch
point_of (point.Closed tree) = logic.Closed (tree_of tree)
point_of (point.BehindTruth tree) = logic.BehindTruth (tree_of tree)

abbrev pub operand_of : Operand → logic.Operand
operand_of (operand.Number tree) = logic.NumberOne (tree_of tree)
operand_of (operand.Truth tree) = logic.TruthOne (tree_of tree)
operand_of (operand.Text tree) = logic.TextOne (tree_of tree)

-- how large each expression is at least that goes on behind an operand: a text has a comparison and a text to come
abbrev pub operand_weight : logic.Operand → ℕ
operand_weight (logic.NumberOne tree) = size tree
operand_weight (logic.TruthOne tree) = size tree
operand_weight (logic.TextOne tree) = size tree + 2

-- the state that follows, if one does, and by how much larger it is
abbrev pub LogicMoves : Option LogicState → ℕ → Option LogicMoved → List Open → Type 0
LogicMoves found before None layers = found ≡ None
LogicMoves found before (Some moved) layers =
    (found ≡ Some (at_point layers (point_of moved.point))) × (logic_weight (at_point layers (point_of moved.point)) ≡ before + moved.more)

-- whether a character was taken in place: then this point follows, over whatever is open, and is no larger; else the point is
-- as it was
abbrev pub LogicTakes : (before : logic.Point) (c : ℕ) (after : logic.Point) → Bool → Type 0
LogicTakes before c after true = (at : ℕ) (layers : List Open) →
    (logic.point_step before (record { at = at; code = c }) layers ≡ Some (at_point layers after)) × (logic.point_weight after ≡ logic.point_weight before)
LogicTakes before c after false = after ≡ before

-- whether a term takes a letter more
abbrev pub part_takes_letter : Part → Bool
part_takes_letter (Property asked place name) = nat_lt (length name) 63
part_takes_letter (Named asked place name) = nat_lt (length name) 63
part_takes_letter _ = false

abbrev pub takes_letter : Point → Bool
takes_letter (inner.Within part) = part_takes_letter part
takes_letter _ = false

-- whether a character may stand behind a number
abbrev pub ends_number : Point → Kind → Bool
ends_number at kind.Close = true
ends_number at kind.Letter = not (takes_letter at)
ends_number at _ = false

abbrev pub text_takes_letter : TextPoint → Bool
text_takes_letter (text.Naming holder place name) = nat_lt (length name) 63
text_takes_letter (text.Word left place name) = nat_lt (length name) 63
text_takes_letter _ = false

-- whether a character may stand behind a text
abbrev pub may_end_text : TextPoint → Kind → Bool
may_end_text at kind.Blank = true
may_end_text at kind.Close = true
may_end_text at kind.Letter = not (text_takes_letter at)
may_end_text at _ = false

-- whether a character may end a number, or stand behind its end
abbrev pub closes_number : Kind → Bool
closes_number kind.Close = true
closes_number kind.Letter = true
closes_number _ = false

-- whether the end of a text closes what is open: all but a parenthesis it does
abbrev pub closes : Opening → Bool
closes opening.Negation = true
closes (opening.LeftOperand operator left) = true
closes opening.Group = false

abbrev pub all_close : List Opening → Bool
all_close [] = true
all_close (one ∷ rest) = closes one && all_close rest
