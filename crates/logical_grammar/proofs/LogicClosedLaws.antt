-- What the end of a text closes in a logical expression.
use Rattle.std.proofs.Common.{◌≡◌, ℕ, Bool, true, false, List, [], ◌∷◌, refl, ap, ◌∙◌, arith, ◌&&◌}
use Rattle.std.specs.Prelude.{nat_le, is_some, Option, Some, None, option_map, option_and_then, if◌then◌else◌}
use Rattle.std.proofs.lemmas.Bool.Decides.{nat_tests}
use Rattle.expression_grammar.specs.declared.tree.Operator.{Operator}
use Rattle.expression_grammar.specs.Characters.{strength}
use Rattle.expression_grammar.specs.Trees.{Tree, Not, Pair}
use Rattle.expression_grammar.specs.Views.{tree_of}
use Rattle.logical_grammar.specs.declared.logic_point.Opening.{Opening}
use Rattle.logical_grammar.specs.declared.logic_point.Opening.TheVariants as opening
use Rattle.logical_grammar.specs.LogicReading.{Open, Negation, LeftOperand, Group, OpenRelation, LogicFolded, number_side, text_side, truth_of, logic_fold, whole, whole_over}
use Rattle.logical_grammar.specs.LogicViews.{open_of, all_close}

layers_close : List Open → Bool
layers_close [] = true
layers_close (Negation ∷ layers) = layers_close layers
layers_close (LeftOperand operator left ∷ layers) = layers_close layers
layers_close (Group ∷ layers) = false

least : (n : ℕ) → nat_le 0 n ≡ true
least n = grind (arith, nat_tests)

whole-pair : (tree : Tree) (operator : Operator) (left : Tree) (layers : List Open) → (b : Bool) → nat_le 0 (strength operator) ≡ b → b ≡ true → logic_fold 0 tree (LeftOperand operator left ∷ layers) ≡ logic_fold 0 (Pair operator left tree) layers
whole-pair tree operator left layers true e f = ap (λ b. if b then logic_fold 0 (Pair operator left tree) layers else record { tree = tree; layers = LeftOperand operator left ∷ layers }) e
whole-pair tree operator left layers false e f = cc

whole-closes : (tree : Tree) (layers : List Open) → is_some (whole layers tree) ≡ layers_close layers
unfolding layers_close
whole-closes tree [] = refl
whole-closes tree (Negation ∷ layers) = whole-closes (Not tree) layers
whole-closes tree (LeftOperand operator left ∷ layers) =
    ap (λ (f : LogicFolded). is_some (whole_over f.tree f.layers)) (whole-pair tree operator left layers (nat_le 0 (strength operator)) refl (least (strength operator))) ∙ whole-closes (Pair operator left tree) layers
whole-closes tree (Group ∷ layers) = refl

and-false : (b : Bool) → (b && false) ≡ false
and-false true = refl
and-false false = refl

and-true : (b : Bool) → (b && true) ≡ b
and-true true = refl
and-true false = refl

stack-closes : (items : List Opening) (below : List Open) → layers_close (open_of items below) ≡ (all_close items && layers_close below)
unfolding layers_close
stack-closes [] below = refl
stack-closes (opening.Negation ∷ items) below = stack-closes items (Negation ∷ below)
stack-closes (opening.LeftOperand operator left ∷ items) below = stack-closes items (LeftOperand operator (tree_of left) ∷ below)
stack-closes (opening.Group ∷ items) below = stack-closes items (Group ∷ below) ∙ and-false (all_close items)

whole-stack : (tree : Tree) (items : List Opening) → is_some (whole (open_of items []) tree) ≡ all_close items
unfolding layers_close
whole-stack tree items = whole-closes tree (open_of items []) ∙ stack-closes items [] ∙ and-true (all_close items)

-- a text is whole exactly if a truth may end there and all that is open is closed
pub accept_closed : (found : Option Tree) (items : List Opening) → is_some (option_and_then (whole (open_of items [])) found) ≡ (is_some found && all_close items)
accept_closed None items = refl
accept_closed (Some tree) items = whole-stack tree items

-- whether an operand is a truth: a number is one, compared or not, and a text only where it is compared
pub number_truth : (relation : Option OpenRelation) (found : Option Tree) → is_some (option_and_then truth_of (option_map (number_side relation) found)) ≡ is_some found
number_truth relation None = refl
number_truth None (Some tree) = refl
number_truth (Some relation) (Some tree) = refl

pub compared_truth : (relation : OpenRelation) (found : Option Tree) → is_some (option_and_then truth_of (option_map (text_side (Some relation)) found)) ≡ is_some found
compared_truth relation None = refl
compared_truth relation (Some tree) = refl

pub text_truth : (found : Option Tree) → is_some (option_and_then truth_of (option_map (text_side None) found)) ≡ false
text_truth None = refl
text_truth (Some tree) = refl
