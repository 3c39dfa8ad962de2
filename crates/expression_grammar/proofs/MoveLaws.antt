-- The moves of the reader, put together.
use Rattle.std.proofs.Common.{◌≡◌, ℕ, ◌+◌, ◌-◌, ◌<◌, ◌≤◌, Bool, true, false, List, [], ◌∷◌, refl, sym, ap, ◌∙◌, subst, arith}
use Rattle.std.specs.Prelude.{Option, Some, None, nat_le, option_and_then, if◌then◌else◌}
use Rattle.std.specs.Char.{to_ascii_uppercase}
use Rattle.std.proofs.lemmas.Bool.Decides.{nat_tests}
use Rattle.expression_grammar.specs.declared.character.Grammar.{Grammar}
use Rattle.expression_grammar.specs.declared.character.Kind.{Kind}
use Rattle.expression_grammar.specs.declared.character.Kind.TheVariants as kind
use Rattle.expression_grammar.specs.declared.tree.Operator.{Operator}
use Rattle.expression_grammar.specs.declared.part.Part.{Part}
use Rattle.expression_grammar.specs.declared.pending.Pending.{Pending}
use Rattle.expression_grammar.specs.declared.reader.Moved.{Moved}
use Rattle.expression_grammar.specs.Characters.{kind_of, strength}
use Rattle.expression_grammar.specs.Trees.{Tree, size}
use Rattle.expression_grammar.specs.Parts.{finish}
use Rattle.expression_grammar.specs.Reading.{Layer, PairLayer, State, Want, Folded, fold, closed, parted, joined, behind, ended, whole, whole_over, weight, layers_size, step, kept, advance}
use Rattle.expression_grammar.specs.Moves.{Moves}
use Rattle.expression_grammar.specs.Spelling.{Placed, most_parts}
use Rattle.expression_grammar.specs.Stacks.{pending_of, stack_of, stand}
use Rattle.expression_grammar.proofs.CharacterLaws.{kind-letter}
use Rattle.expression_grammar.proofs.Folds.{fold-size}
use Rattle.expression_grammar.proofs.Weights.{finish-size}

pub upper_small : (c : ℕ) → kind_of c ≡ kind.Letter → to_ascii_uppercase c < 256
upper_small c e = let l = kind-letter c e in grind (arith, nat_tests)

pub Moves-same : (found : Option State) (before same : ℕ) (moved : Option Moved) (layers : List Layer) → before ≡ same → Moves found before moved layers → Moves found same moved layers
Moves-same found before same None layers e m = m
Moves-same found before same (Some moved) layers e m = (m.0, m.1 ∙ ap (λ n. n + moved.more) e)

pub mark_moves : (operator : Operator) (tree left : Tree) (layers below new : List Layer) → fold (strength operator) tree layers ≡ record { tree = left; layers = below } →
    new ≡ PairLayer operator left ∷ below → (Some (joined operator (fold (strength operator) tree layers)) ≡ Some (Want new)) × (layers_size new + 1 ≡ layers_size layers + size tree + 2)
mark_moves operator tree left layers below new e n =
    let kept : layers_size below + size left ≡ layers_size (fold (strength operator) tree layers).layers + size (fold (strength operator) tree layers).tree =
    ap (λ (f : Folded). layers_size f.layers + size f.tree) (sym e) in (
      ap (λ (f : Folded). Some (joined operator f)) e ∙ ap (λ xs. Some (Want xs)) (sym n),
      ap (λ xs. layers_size xs + 1) n ∙ omega (arith, kept, fold-size (strength operator) tree layers),
    )

pub close_moves : (tree inner : Tree) (layers below : List Layer) (moved : Option Moved) (new : List Layer) → fold 0 tree layers ≡ record { tree = inner; layers = below } →
    Moves (closed inner below) (layers_size below + size inner) moved new →
    Moves (closed (fold 0 tree layers).tree (fold 0 tree layers).layers) (layers_size layers + size tree) moved new
close_moves tree inner layers below moved new e m =
    Moves-same (closed (fold 0 tree layers).tree (fold 0 tree layers).layers) (layers_size (fold 0 tree layers).layers + size (fold 0 tree layers).tree) (layers_size layers + size tree) moved new (fold-size 0 tree layers)
    (subst (λ (f : Folded). Moves (closed f.tree f.layers) (layers_size f.layers + size f.tree) moved new) (sym e) m)

pub comma_moves : (tree inner : Tree) (layers below : List Layer) (moved : Option Moved) (new : List Layer) → fold 0 tree layers ≡ record { tree = inner; layers = below } →
    Moves (parted inner below) (layers_size below + size inner) moved new →
    Moves (parted (fold 0 tree layers).tree (fold 0 tree layers).layers) (layers_size layers + size tree) moved new
comma_moves tree inner layers below moved new e m =
    Moves-same (parted (fold 0 tree layers).tree (fold 0 tree layers).layers) (layers_size (fold 0 tree layers).layers + size (fold 0 tree layers).tree) (layers_size layers + size tree) moved new (fold-size 0 tree layers)
    (subst (λ (f : Folded). Moves (parted f.tree f.layers) (layers_size f.layers + size f.tree) moved new) (sym e) m)

pub end_moves : (g : Grammar) (part : Part) (k : Kind) (tree : Tree) (layers : List Layer) (moved : Option Moved) (new : List Layer) → Some tree ≡ finish g part →
    Moves (behind g k tree layers) (layers_size layers + size tree) moved new → Moves (ended g (finish g part) k layers) (layers_size layers + 1) moved new
end_moves g part k tree layers moved new e m =
    subst (λ (found : Option Tree). Moves (ended g found k layers) (layers_size layers + 1) moved new) e
    (Moves-same (behind g k tree layers) (layers_size layers + size tree) (layers_size layers + 1) moved new (ap (λ n. layers_size layers + n) (finish-size g part tree (sym e))) m)

-- a stack with something open leaves no whole tree
open-over : (tree : Tree) (items : List Pending) (top : Layer) (below : List Layer) → whole_over tree (stack_of items (top ∷ below)) ≡ None
open-over tree [] top below = refl
open-over tree (one ∷ items) top below = open-over tree items (pending_of one) (top ∷ below)

pub open_whole : (tree : Tree) (items : List Pending) (folded : Folded) → folded ≡ record { tree = tree; layers = stack_of items [] } → (items ≡ [] → ⊥) → whole folded ≡ None
open_whole tree [] folded e h = absurd (h refl)
open_whole tree (one ∷ items) folded e h = ap whole e ∙ open-over tree items (pending_of one) []

-- The next state, within the limit.

if-kept : {A : Type 0} (b : Bool) (x y : A) → b ≡ true → (if b then x else y) ≡ x
if-kept true x y e = refl
if-kept false x y e = cc

if-left : {A : Type 0} (b : Bool) (x y : A) → b ≡ false → (if b then x else y) ≡ y
if-left true x y e = cc
if-left false x y e = refl

fits-test : (a b : ℕ) → a ≤ b → nat_le a b ≡ true
fits-test a b h = grind (arith, nat_tests)

over-test : (a b : ℕ) → b < a → nat_le a b ≡ false
over-test a b h = grind (arith, nat_tests)

pub advance_none : (g : Grammar) (state : State) (p : Placed) → step g state p ≡ None → advance g most_parts state p ≡ None
unfolding advance
advance_none g state p e = ap (option_and_then (kept most_parts)) e

pub advance_some : (g : Grammar) (state : State) (p : Placed) (w : ℕ) (moved : Moved) (layers : List Layer) → Moves (step g state p) (weight state) (Some moved) layers → w ≡ weight state →
    w ≤ most_parts → moved.more ≤ most_parts - w →
    (advance g most_parts state p ≡ Some (stand moved.point layers)) × (w + moved.more ≡ weight (stand moved.point layers)) × (w + moved.more ≤ most_parts)
unfolding advance
advance_some g state p w moved layers m e f h =
    let next : State = stand moved.point layers in
    let exact : weight next ≡ w + moved.more = m.1 ∙ ap (λ n. n + moved.more) (sym e) in
    (ap (option_and_then (kept most_parts)) m.0 ∙ if-kept (nat_le (weight next) most_parts) (Some next) None (fits-test (weight next) most_parts (omega arith)), sym exact, omega arith)

pub advance_over : (g : Grammar) (state : State) (p : Placed) (w : ℕ) (moved : Moved) (layers : List Layer) → Moves (step g state p) (weight state) (Some moved) layers → w ≡ weight state →
    w ≤ most_parts → most_parts - w < moved.more → advance g most_parts state p ≡ None
unfolding advance
advance_over g state p w moved layers m e f h =
    let next : State = stand moved.point layers in
    let exact : weight next ≡ w + moved.more = m.1 ∙ ap (λ n. n + moved.more) (sym e) in
    ap (option_and_then (kept most_parts)) m.0 ∙ if-left (nat_le (weight next) most_parts) (Some next) None (over-test (weight next) most_parts (omega arith))
