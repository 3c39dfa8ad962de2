-- What the end of a text closes.
use Rattle.std.proofs.Common.{◌≡◌, ℕ, suc, ◌+◌, ◌<◌, ◌≤◌, Bool, true, false, List, [], ◌∷◌, length, drop, drop-cons, add-one, get_or, refl, sym, ap, ◌∙◌, arith, ◌&&◌}
use Rattle.std.specs.Prelude.{nat_le, is_some, Option, Some, None, option_map, option_and_then, if◌then◌else◌}
use Rattle.std.proofs.lemmas.Bool.Decides.{nat_tests}
use Rattle.std.proofs.Math.ListN.{drop_of_length-le}
use Rattle.expression_grammar.specs.declared.character.Grammar.TheVariants.{Arithmetic}
use Rattle.expression_grammar.specs.declared.pending.Pending.{Pending}
use Rattle.expression_grammar.specs.declared.pending.Pending.TheVariants as pending
use Rattle.expression_grammar.specs.declared.pending.Point.{Point}
use Rattle.expression_grammar.specs.declared.pending.Point.TheVariants as point
use Rattle.expression_grammar.specs.declared.tree.Operator.{Operator}
use Rattle.expression_grammar.specs.Characters.{strength}
use Rattle.expression_grammar.specs.Parts.{finish}
use Rattle.expression_grammar.specs.Reading.{Layer, SignLayer, PairLayer, OpenLayer, SubscriptLayer, fold, whole, accept}
use Rattle.expression_grammar.specs.Readings.{variable_only}
use Rattle.expression_grammar.specs.Stacks.{pending_of, stack_of, stand, closes, all_close}
use Rattle.expression_grammar.specs.Trees.{Tree, Signed, Pair}
use Rattle.expression_grammar.specs.Views.{tree_of}

layers_close : List Layer → Bool
layers_close [] = true
layers_close (SignLayer sign ∷ layers) = layers_close layers
layers_close (PairLayer operator left ∷ layers) = layers_close layers
layers_close (OpenLayer ∷ layers) = false
layers_close (SubscriptLayer asked symbol others ∷ layers) = false

pair-closes : (tree : Tree) (operator : Operator) (left : Tree) (layers : List Layer) → is_some (whole (fold 0 (Pair operator left tree) layers)) ≡ layers_close layers → (b : Bool) → b ≡ true →
    is_some (whole (if b then fold 0 (Pair operator left tree) layers else record { tree = tree; layers = PairLayer operator left ∷ layers })) ≡ layers_close layers
pair-closes tree operator left layers go true e = go
pair-closes tree operator left layers go false e = cc

least : (n : ℕ) → nat_le 0 n ≡ true
least n = grind (arith, nat_tests)

whole-closes : (tree : Tree) (layers : List Layer) → is_some (whole (fold 0 tree layers)) ≡ layers_close layers
unfolding layers_close
whole-closes tree [] = refl
whole-closes tree (SignLayer sign ∷ layers) = whole-closes (Signed sign tree) layers
whole-closes tree (PairLayer operator left ∷ layers) = pair-closes tree operator left layers (whole-closes (Pair operator left tree) layers) (nat_le 0 (strength operator)) (least (strength operator))
whole-closes tree (OpenLayer ∷ layers) = refl
whole-closes tree (SubscriptLayer asked symbol others ∷ layers) = refl

and-false : (b : Bool) → (b && false) ≡ false
and-false true = refl
and-false false = refl

stack-closes : (items : List Pending) (below : List Layer) → layers_close (stack_of items below) ≡ (all_close items && layers_close below)
unfolding layers_close
stack-closes [] below = refl
stack-closes (pending.Sign sign ∷ items) below = stack-closes items (SignLayer sign ∷ below)
stack-closes (pending.Pair operator left ∷ items) below = stack-closes items (PairLayer operator (tree_of left) ∷ below)
stack-closes (pending.Open ∷ items) below = stack-closes items (OpenLayer ∷ below) ∙ and-false (all_close items)
stack-closes (pending.Subscript asked symbol others ∷ items) below = stack-closes items (pending_of (pending.Subscript asked symbol others) ∷ below) ∙ and-false (all_close items)

and-true : (b : Bool) → (b && true) ≡ b
and-true true = refl
and-true false = refl

-- a tree is whole exactly if all that is open is closed
pub stack_whole : (tree : Tree) (items : List Pending) → is_some (whole (fold 0 tree (stack_of items []))) ≡ all_close items
unfolding layers_close
stack_whole tree items = whole-closes tree (stack_of items []) ∙ stack-closes items [] ∙ and-true (all_close items)

-- a term is whole exactly if it is whole itself and all is closed
pub part_whole : (found : Option Tree) (items : List Pending) → is_some (option_and_then whole (option_map (λ tree. fold 0 tree (stack_of items [])) found)) ≡ (is_some found && all_close items)
part_whole None items = refl
part_whole (Some tree) items = stack_whole tree items

-- one of a stack, and what is behind it
pub closes-at : (items : List Pending) (n : ℕ) (one : Pending) → n < length items → one ≡ get_or items n one → all_close (drop n items) ≡ (closes one && all_close (drop (n + 1) items))
closes-at items n one h e =
    ap all_close (drop-cons items n one h ∙ ap (λ x. x ∷ drop (suc n) items) (sym e)) ∙ ap (λ k. closes one && all_close (drop k items)) (sym (add-one n))

pub closes-past : (items : List Pending) (n : ℕ) → length items ≤ n → all_close (drop n items) ≡ true
closes-past items n h = ap all_close (drop_of_length-le items h)

-- Variable symbols.

pair-not_variable : (tree : Tree) (operator : Operator) (left : Tree) (layers : List Layer) → variable_only (whole (fold 0 (Pair operator left tree) layers)) ≡ None → (b : Bool) →
    variable_only (whole (if b then fold 0 (Pair operator left tree) layers else record { tree = tree; layers = PairLayer operator left ∷ layers })) ≡ None
pair-not_variable tree operator left layers go true = go
pair-not_variable tree operator left layers go false = refl

never_variable : (tree : Tree) (layers : List Layer) → variable_only (Some tree) ≡ None → variable_only (whole (fold 0 tree layers)) ≡ None
never_variable tree [] e = e
never_variable tree (SignLayer sign ∷ layers) e = never_variable (Signed sign tree) layers refl
never_variable tree (PairLayer operator left ∷ layers) e = pair-not_variable tree operator left layers (never_variable (Pair operator left tree) layers refl) (nat_le 0 (strength operator))
never_variable tree (OpenLayer ∷ layers) e = refl
never_variable tree (SubscriptLayer asked symbol others ∷ layers) e = refl

-- where something is open there is none
open_variable : (tree : Tree) (top : Layer) (layers : List Layer) → variable_only (whole (fold 0 tree (top ∷ layers))) ≡ None
open_variable tree (SignLayer sign) layers = never_variable (Signed sign tree) layers refl
open_variable tree (PairLayer operator left) layers = pair-not_variable tree operator left layers (never_variable (Pair operator left tree) layers refl) (nat_le 0 (strength operator))
open_variable tree OpenLayer layers = refl
open_variable tree (SubscriptLayer asked symbol others) layers = refl

stack_variable : (tree : Tree) (items : List Pending) (top : Layer) (below : List Layer) → variable_only (whole (fold 0 tree (stack_of items (top ∷ below)))) ≡ None
stack_variable tree [] top below = open_variable tree top below
stack_variable tree (one ∷ items) top below = stack_variable tree items (pending_of one) (top ∷ below)

part_variable : (found : Option Tree) (one : Pending) (items : List Pending) → variable_only (option_and_then whole (option_map (λ tree. fold 0 tree (stack_of (one ∷ items) [])) found)) ≡ None
part_variable None one items = refl
part_variable (Some tree) one items = stack_variable tree items (pending_of one) []

pub open_no_variable : (at : Point) (items : List Pending) → (items ≡ [] → ⊥) → is_some (variable_only (accept Arithmetic (stand at (stack_of items [])))) ≡ false
unfolding accept
open_no_variable at [] some = absurd (some refl)
open_no_variable point.Want (one ∷ items) some = refl
open_no_variable (point.Have tree) (one ∷ items) some = ap is_some (stack_variable (tree_of tree) items (pending_of one) [])
open_no_variable (point.Within part) (one ∷ items) some = ap is_some (part_variable (finish Arithmetic part) one items)
