-- The moves of the reader of character expressions, put together.
use Rattle.std.proofs.Common.{◌≡◌, ℕ, ◌+◌, ◌-◌, ◌<◌, ◌≤◌, Bool, true, false, List, [], ◌∷◌, ◌++◌, refl, sym, ap, ◌∙◌, subst, arith}
use Rattle.std.specs.Prelude.{length, Option, Some, None, nat_le, option_and_then, option_map, if◌then◌else◌}
use Rattle.std.proofs.lemmas.Bool.Decides.{nat_tests}
use Rattle.expression_grammar.specs.declared.character.Grammar.{Grammar}
use Rattle.expression_grammar.specs.declared.character.Grammar.TheVariants.{Arithmetic}
use Rattle.expression_grammar.specs.declared.character.Kind.{Kind}
use Rattle.expression_grammar.specs.declared.character.Kind.TheVariants as kind
use Rattle.expression_grammar.specs.declared.pending.Pending.{Pending}
use Rattle.expression_grammar.specs.declared.pending.Point.{Point}
use Rattle.expression_grammar.specs.declared.pending.Point.TheVariants as point
use Rattle.character_grammar.specs.declared.text_reader.TextMoved.{TextMoved}
use Rattle.expression_grammar.specs.Characters.{kind_of}
use Rattle.expression_grammar.specs.Spelling.{Placed, most_parts}
use Rattle.expression_grammar.specs.Parts.{finish}
use Rattle.expression_grammar.specs.Trees.{Items, Tree, size}
use Rattle.expression_grammar.specs.Reading.{Layer, SignLayer, PairLayer, OpenLayer, SubscriptLayer, State, Have, Folded, fold, closed, parted, behind, settled, whole, step, accept, weight, layers_size}
use Rattle.expression_grammar.specs.Stacks.{stack_of, stand}
use Rattle.expression_grammar.specs.Views.{tree_of}
use Rattle.character_grammar.specs.TextReading as texts
use Rattle.character_grammar.specs.TextReading.{Frame, Factor, Subscripts, Start, Count, Opened, TextState, leave, left_by, go_within, is_end, text_step, text_weight, text_kept, text_advance, frame_size, holder_size, opened_size, InText, go_inside, after_symbol}
use Rattle.character_grammar.specs.TextViews.{Takes, TextMoves, is_plain, text_state}
use Rattle.expression_grammar.specs.Characters.{strength}
use Rattle.expression_grammar.specs.Trees.{Signed, Pair}
use Rattle.expression_grammar.proofs.Folds.{fold-size}
use Rattle.expression_grammar.proofs.Weights.{finish-size}
use Rattle.expression_grammar.proofs.MoveLaws.{open_whole}
use Rattle.expression_grammar.proofs.Leads.{IsAtTree, as_tree, as_part, IsFollower, step-behind}

pub TextMoves-same : (found other : Option TextState) (before same : ℕ) (moved : Option TextMoved) → found ≡ other → before ≡ same → TextMoves other same moved → TextMoves found before moved
TextMoves-same found other before same moved e f m =
    subst (λ x. TextMoves x before moved) (sym e) (subst (λ n. TextMoves other n moved) (sym f) m)

if-kept : {A : Type 0} (b : Bool) (x y : A) → b ≡ true → (if b then x else y) ≡ x
if-kept true x y e = refl
if-kept false x y e = cc

if-left : {A : Type 0} (b : Bool) (x y : A) → b ≡ false → (if b then x else y) ≡ y
if-left true x y e = cc
if-left false x y e = refl

fits-test : (a b : ℕ) → a ≤ b → nat_le a b ≡ true
fits-test a b h = grind (arith, nat_tests)

over-test : (a b : ℕ) → b < a → nat_le a b ≡ false
over-test a b h = grind (arith, nat_tests)

-- What ends an arithmetic expression.

pub end-follower : (k : Kind) → is_end k ≡ true → IsFollower k
end-follower kind.Close e = tt
end-follower kind.Comma e = tt
end-follower (kind.Mark o) e = tt
end-follower kind.Blank e = tt
end-follower _ e = cc

leave-none : (frame : Frame) (tree : Tree) (k : Kind) → is_end k ≡ false → leave frame tree k ≡ None
leave-none frame tree kind.Close e = cc
leave-none frame tree kind.Comma e = cc
leave-none (Factor left) tree _ e = refl
leave-none (Subscripts holder symbol others) tree _ e = refl
leave-none (Start opened items) tree _ e = refl
leave-none (Count opened items start) tree _ e = refl

left-none : (frame : Frame) (whole : Option Tree) (k : Kind) → is_end k ≡ false → left_by frame whole k ≡ None
left-none frame None k e = refl
left-none frame (Some tree) k e = leave-none frame tree k e

pub not_end : (frame : Frame) (found : Option State) (whole : Option Tree) (k : Kind) → is_end k ≡ false → go_within frame found whole k ≡ option_map (texts.Within frame) found
not_end frame None whole k e = left-none frame whole k e
not_end frame (Some next) whole k e = refl

pub open_end : (frame : Frame) (found : Option State) (whole : Option Tree) (k : Kind) → whole ≡ None → go_within frame found whole k ≡ option_map (texts.Within frame) found
open_end frame None whole k e = ap (λ w. left_by frame w k) e
open_end frame (Some next) whole k e = refl

pub accept-none : (g : Grammar) (state : State) → settled g state ≡ None → accept g state ≡ None
unfolding accept
accept-none g state e = ap (option_and_then whole) e

pub accept-some : (g : Grammar) (state : State) (folded : Folded) → settled g state ≡ Some folded → accept g state ≡ whole folded
unfolding accept
accept-some g state folded e = ap (option_and_then whole) e

part-at : (found : Option Tree) (tree : Tree) → option_map (λ t. fold 0 t []) found ≡ Some (fold 0 tree []) → found ≡ Some tree
part-at None tree e = cc
part-at (Some one) tree e = let same : fold 0 one [] ≡ fold 0 tree [] = cc in ap (λ (f : Folded). Some f.tree) same

pub settled-at : (inner : Point) (tree : Tree) (layers : List Layer) → settled Arithmetic (stand inner []) ≡ Some (fold 0 tree []) → IsAtTree Arithmetic (stand inner layers) tree layers
settled-at point.Want tree layers e = cc
settled-at (point.Have one) tree layers e =
    let same : fold 0 (tree_of one) [] ≡ fold 0 tree [] = cc in as_tree (ap (λ (f : Folded). Have f.tree layers) same)
settled-at (point.Within part) tree layers e = as_part part refl (part-at (finish Arithmetic part) tree e)

at-settled : (state : State) (tree : Tree) (layers : List Layer) → IsAtTree Arithmetic state tree layers → settled Arithmetic state ≡ Some (fold 0 tree layers)
at-settled state tree layers (as_tree s) = ap (settled Arithmetic) s
at-settled state tree layers (as_part part s f) = ap (settled Arithmetic) s ∙ ap (option_map (λ t. fold 0 t layers)) f

pub at-weight : (state : State) (tree : Tree) (layers : List Layer) → IsAtTree Arithmetic state tree layers → weight state ≡ layers_size layers + size tree
at-weight state tree layers (as_tree s) = ap weight s
at-weight state tree layers (as_part part s f) = ap weight s ∙ ap (λ n. layers_size layers + n) (sym (finish-size Arithmetic part tree f))

-- a term that may end here goes on as its tree
pub at_within : (frame : Frame) (state : State) (tree : Tree) (layers : List Layer) (p : Placed) (k : Kind) → IsAtTree Arithmetic state tree layers → k ≡ kind_of p.code → is_end k ≡ true →
    go_within frame (step Arithmetic state p) (accept Arithmetic state) k ≡ go_within frame (step Arithmetic (Have tree layers) p) (accept Arithmetic (Have tree layers)) k
at_within frame state tree layers p k a e i =
    let f = end-follower k i in
    ap (λ x. go_within frame x (accept Arithmetic state) k) (step-behind Arithmetic state tree layers p k f (sym e) a ∙ sym (step-behind Arithmetic (Have tree layers) tree layers p k f (sym e) (as_tree refl)))
    ∙ ap (λ x. go_within frame (step Arithmetic (Have tree layers) p) x k)
    (accept-some Arithmetic state (fold 0 tree layers) (at-settled state tree layers a) ∙ sym (accept-some Arithmetic (Have tree layers) (fold 0 tree layers) refl))

behind-over : (tree inner : Tree) (layers : List Layer) (k : Kind) → is_end k ≡ true → fold 0 tree layers ≡ record { tree = inner; layers = [] } → behind Arithmetic k tree layers ≡ None
behind-over tree inner layers kind.Close i e = ap (λ (f : Folded). closed f.tree f.layers) e
behind-over tree inner layers kind.Comma i e = ap (λ (f : Folded). parted f.tree f.layers) e
behind-over tree inner layers _ i e = cc

-- behind a tree with nothing open
pub leaves : (frame : Frame) (tree inner : Tree) (layers : List Layer) (p : Placed) (k : Kind) → k ≡ kind_of p.code → is_end k ≡ true → fold 0 tree layers ≡ record { tree = inner; layers = [] } →
    go_within frame (step Arithmetic (Have tree layers) p) (accept Arithmetic (Have tree layers)) k ≡ leave frame inner k
leaves frame tree inner layers p k e i f =
    ap (λ x. go_within frame x (accept Arithmetic (Have tree layers)) k)
    (step-behind Arithmetic (Have tree layers) tree layers p k (end-follower k i) (sym e) (as_tree refl) ∙ behind-over tree inner layers k i f)
    ∙ ap (λ x. left_by frame x k) (accept-some Arithmetic (Have tree layers) (fold 0 tree layers) refl ∙ ap whole f)

pub fold-again : (tree : Tree) (layers : List Layer) → fold 0 (fold 0 tree layers).tree (fold 0 tree layers).layers ≡ fold 0 tree layers
fold-again tree [] = refl
fold-again tree (SignLayer sign ∷ layers) = fold-again (Signed sign tree) layers
fold-again tree (PairLayer operator left ∷ layers) =
    let e : fold 0 tree (PairLayer operator left ∷ layers) ≡ fold 0 (Pair operator left tree) layers =
    if-kept (nat_le 0 (strength operator)) (fold 0 (Pair operator left tree) layers) (record { tree = tree; layers = PairLayer operator left ∷ layers }) (fits-test 0 (strength operator) (omega arith)) in
    ap (λ (f : Folded). fold 0 f.tree f.layers) e ∙ fold-again (Pair operator left tree) layers ∙ sym e
fold-again tree (OpenLayer ∷ layers) = refl
fold-again tree (SubscriptLayer asked symbol others ∷ layers) = refl

behind-again : (tree : Tree) (layers : List Layer) (k : Kind) → is_end k ≡ true → behind Arithmetic k tree layers ≡ behind Arithmetic k (fold 0 tree layers).tree (fold 0 tree layers).layers
behind-again tree layers kind.Close i = ap (λ (f : Folded). closed f.tree f.layers) (sym (fold-again tree layers))
behind-again tree layers kind.Comma i = ap (λ (f : Folded). parted f.tree f.layers) (sym (fold-again tree layers))
behind-again tree layers _ i = cc

-- behind a tree with something open
pub goes_on : (frame : Frame) (tree inner : Tree) (layers : List Layer) (items : List Pending) (p : Placed) (k : Kind) → k ≡ kind_of p.code → is_end k ≡ true →
    fold 0 tree layers ≡ record { tree = inner; layers = stack_of items [] } → (items ≡ [] → ⊥) →
    go_within frame (step Arithmetic (Have tree layers) p) (accept Arithmetic (Have tree layers)) k ≡ option_map (texts.Within frame) (step Arithmetic (Have inner (stack_of items [])) p)
goes_on frame tree inner layers items p k e i f n =
    let b = end-follower k i in
    open_end frame (step Arithmetic (Have tree layers) p) (accept Arithmetic (Have tree layers)) k
    (accept-some Arithmetic (Have tree layers) (fold 0 tree layers) refl ∙ open_whole inner items (fold 0 tree layers) f n)
    ∙ ap (option_map (texts.Within frame))
    (step-behind Arithmetic (Have tree layers) tree layers p k b (sym e) (as_tree refl) ∙ behind-again tree layers k i
    ∙ ap (λ (x : Folded). behind Arithmetic k x.tree x.layers) f
    ∙ sym (step-behind Arithmetic (Have inner (stack_of items [])) inner (stack_of items []) p k b (sym e) (as_tree refl)))

pub folded-size : (tree inner : Tree) (layers below : List Layer) → fold 0 tree layers ≡ record { tree = inner; layers = below } → layers_size layers + size tree ≡ layers_size below + size inner
folded-size tree inner layers below e = sym (fold-size 0 tree layers) ∙ ap (λ (f : Folded). layers_size f.layers + size f.tree) e

-- The next state, within the limit.

pub text_advance_none : (state : TextState) (p : Placed) → text_step state p ≡ None → text_advance most_parts state p ≡ None
unfolding text_advance
text_advance_none state p e = ap (option_and_then (text_kept most_parts)) e

pub text_advance_some : (state : TextState) (p : Placed) (w : ℕ) (moved : TextMoved) → TextMoves (text_step state p) (text_weight state) (Some moved) → w ≡ text_weight state →
    w ≤ most_parts → moved.more ≤ most_parts - w →
    (text_advance most_parts state p ≡ Some (text_state moved.point)) × (w + moved.more ≡ text_weight (text_state moved.point)) × (w + moved.more ≤ most_parts)
unfolding text_advance
text_advance_some state p w moved m e f h =
    let next : TextState = text_state moved.point in
    let exact : text_weight next ≡ w + moved.more = m.1 ∙ ap (λ n. n + moved.more) (sym e) in
    (ap (option_and_then (text_kept most_parts)) m.0 ∙ if-kept (nat_le (text_weight next) most_parts) (Some next) None (fits-test (text_weight next) most_parts (omega arith)), sym exact, omega arith)

pub text_advance_over : (state : TextState) (p : Placed) (w : ℕ) (moved : TextMoved) → TextMoves (text_step state p) (text_weight state) (Some moved) → w ≡ text_weight state →
    w ≤ most_parts → most_parts - w < moved.more → text_advance most_parts state p ≡ None
unfolding text_advance
text_advance_over state p w moved m e f h =
    let next : TextState = text_state moved.point in
    let exact : text_weight next ≡ w + moved.more = m.1 ∙ ap (λ n. n + moved.more) (sym e) in
    ap (option_and_then (text_kept most_parts)) m.0 ∙ if-left (nat_le (text_weight next) most_parts) (Some next) None (over-test (text_weight next) most_parts (omega arith))

-- a quoted text is no larger by a character
pub stays : (found : TextState) (before : ℕ) (next : TextMoved) (moved : Option TextMoved) → moved ≡ Some next → next.more ≡ 0 → text_state next.point ≡ found → text_weight found ≡ before →
    TextMoves (Some found) before moved
stays found before next moved e z s w =
    subst (TextMoves (Some found) before) (sym e) (ap Some (sym s), ap text_weight s ∙ (let z2 = z in let w2 = w in omega arith))

pub none-left : {A : Type 0} (xs : List A) → length xs ≡ 0 → xs ≡ []
none-left [] e = refl
none-left (x ∷ xs) e = absurd (omega arith)

-- a character of a quoted text that stands for itself
plain-inside : (opened : Opened) (items : Items) (plain : List ℕ) (k : Kind) (p : Placed) → is_plain k ≡ true → go_inside opened items plain k p ≡ texts.Inside opened items (plain ++ p.code ∷ [])
plain-inside opened items plain (kind.Mark operator) p e = refl
plain-inside opened items plain kind.Open p e = refl
plain-inside opened items plain kind.Close p e = refl
plain-inside opened items plain kind.Comma p e = refl
plain-inside opened items plain kind.Blank p e = refl
plain-inside opened items plain kind.Quote p e = absurd cc
plain-inside opened items plain kind.Ampersand p e = absurd cc
plain-inside opened items plain kind.Digit p e = refl
plain-inside opened items plain kind.Letter p e = refl
plain-inside opened items plain kind.Other p e = refl

pub plain_takes : (opened : Opened) (items : Items) (old new : List ℕ) (c : ℕ) (taken : Bool) → taken ≡ is_plain (kind_of c) → new ≡ (if taken then old ++ c ∷ [] else old) →
    Takes (texts.Inside opened items old) c (texts.Inside opened items new) taken
unfolding text_step
plain_takes opened items old new c true e n = λ at. (
  ap Some (plain-inside opened items old (kind_of c) (record { at = at; code = c }) (sym e) ∙ ap (texts.Inside opened items) (sym n)),
  refl,
)
plain_takes opened items old new c false e n = ap (texts.Inside opened items) n

-- a state that is no larger
pub text_advance_same : (before after : TextState) (p : Placed) (w : ℕ) → text_step before p ≡ Some after → text_weight after ≡ text_weight before → w ≡ text_weight before → w ≤ most_parts →
    (text_advance most_parts before p ≡ Some after) × (w ≡ text_weight after) × (w ≤ most_parts)
unfolding text_advance
text_advance_same before after p w s same e f =
    let exact : w ≡ text_weight after = e ∙ sym same in
    (ap (option_and_then (text_kept most_parts)) s ∙ if-kept (nat_le (text_weight after) most_parts) (Some after) None (fits-test (text_weight after) most_parts (omega arith)), exact, f)
