-- How large each state is, beside the one before it.
use Rattle.std.proofs.Common.{◌≡◌, ℕ, ◌+◌, ◌≤◌, Bool, true, false, List, [], ◌∷◌, refl, subst, arith}
use Rattle.std.specs.Prelude.{nat_lt, ◌||◌, Option, Some, None, is_some, option_and_then, option_map, if◌then◌else◌}
use Rattle.std.specs.Char.{to_ascii_uppercase}
use Rattle.expression_grammar.specs.declared.character.Grammar.{Grammar}
use Rattle.expression_grammar.specs.declared.character.Kind.{Kind}
use Rattle.expression_grammar.specs.declared.character.Kind.TheVariants as kind
use Rattle.expression_grammar.specs.declared.tree.Form.TheVariants.{Decimal, Character}
use Rattle.expression_grammar.specs.declared.tree.Operator.{Operator}
use Rattle.expression_grammar.specs.declared.tree.Operator.TheVariants.{Add, Subtract, Multiply}
use Rattle.expression_grammar.specs.declared.tree.Reference.TheVariants.{Value}
use Rattle.expression_grammar.specs.declared.part.Part.{Part}
use Rattle.expression_grammar.specs.declared.part.Part.TheVariants.{Figures, BodyQuote, Sigil, Word, Property, Named}
use Rattle.expression_grammar.specs.declared.part.Move.{Move}
use Rattle.expression_grammar.specs.declared.part.Move.TheVariants.{To, Done, Begins, Over}
use Rattle.expression_grammar.specs.Characters.{kind_of, strength}
use Rattle.expression_grammar.specs.Trees.{Tree, Number, Ordinary, Here, size}
use Rattle.expression_grammar.specs.Spelling.{Placed, has_blanks, is_ordinary, may_vary}
use Rattle.expression_grammar.specs.Parts.{symbol_at, after, finish, opening}
use Rattle.expression_grammar.specs.Reading.{Layer, SignLayer, PairLayer, OpenLayer, SubscriptLayer, State, Want, Have, Within, Folded, fold, closed, parted, joined, behind, marked, begun, ended, moved, step, run, whole, whole_over, accept, weight, layers_size}
use Rattle.expression_grammar.proofs.Folds.{fold-size}

pub joined-weight : (operator : Operator) (floor : ℕ) (tree : Tree) (layers : List Layer) → weight (joined operator (fold floor tree layers)) ≡ layers_size layers + size tree + 2
joined-weight operator floor tree layers = omega (arith, fold-size floor tree layers)

-- a state is of this size, if there is one
abbrev pub Weighs : ℕ → Option State → Type 0
Weighs size None = Unit {0}
Weighs size (Some state) = weight state ≡ size

pub closed-weight : (tree : Tree) (layers : List Layer) → Weighs (layers_size layers + size tree) (closed tree layers)
closed-weight tree [] = tt
closed-weight tree (SignLayer sign ∷ layers) = tt
closed-weight tree (PairLayer operator left ∷ layers) = tt
closed-weight tree (OpenLayer ∷ layers) = omega arith
closed-weight tree (SubscriptLayer asked symbol others ∷ layers) = omega arith

pub parted-weight : (tree : Tree) (layers : List Layer) → Weighs (layers_size layers + size tree + 1) (parted tree layers)
parted-weight tree [] = tt
parted-weight tree (SignLayer sign ∷ layers) = tt
parted-weight tree (PairLayer operator left ∷ layers) = tt
parted-weight tree (OpenLayer ∷ layers) = tt
parted-weight tree (SubscriptLayer asked symbol others ∷ layers) = omega arith

abbrev OfOne : Option Tree → Type 0
OfOne None = Unit {0}
OfOne (Some tree) = size tree ≡ 1

if-one : (b : Bool) (x y : Option Tree) → OfOne x → OfOne y → OfOne (if b then x else y)
if-one true x y e f = e
if-one false x y e f = f

finish-one : (g : Grammar) (part : Part) → OfOne (finish g part)
unfolding finish
finish-one g (Figures Decimal count number) = refl
finish-one g (BodyQuote count number) = if-one (nat_lt 0 count) (Some (Number Character number)) None refl tt
finish-one g (Word place name) = if-one (is_ordinary g) (Some (Ordinary Value (symbol_at place name))) None refl tt
finish-one g (Property asked place name) = refl
finish-one g (Named asked place name) = refl
finish-one g _ = tt

pub finish-size : (g : Grammar) (part : Part) (tree : Tree) → finish g part ≡ Some tree → size tree ≡ 1
finish-size g part tree e = subst OfOne e (finish-one g part)

abbrev AtLeast : ℕ → Option State → Type 0
AtLeast low None = Unit {0}
AtLeast low (Some state) = low ≤ weight state

if-least : (low : ℕ) (b : Bool) (state : State) → low ≤ weight state → AtLeast low (if b then Some state else None)
if-least low true state h = h
if-least low false state h = tt

weighs-least : (low size : ℕ) (found : Option State) → low ≤ size → Weighs size found → AtLeast low found
weighs-least low size None h w = tt
weighs-least low size (Some state) h w = omega arith

marked-least : (g : Grammar) (operator : Operator) (layers : List Layer) → AtLeast (layers_size layers + 1) (marked g operator layers)
marked-least g Add layers = omega arith
marked-least g Subtract layers = omega arith
marked-least g Multiply layers = if-least (layers_size layers + 1) (is_ordinary g) (Have Here layers) (omega arith)
marked-least g _ layers = tt

begun-least : (g : Grammar) (k : Kind) (p : Placed) (layers : List Layer) → AtLeast (layers_size layers + 1) (begun g k p layers)
begun-least g kind.Blank p layers = if-least (layers_size layers + 1) (has_blanks g) (Want layers) (omega arith)
begun-least g (kind.Mark operator) p layers = marked-least g operator layers
begun-least g kind.Open p layers = omega arith
begun-least g kind.Digit p layers = omega arith
begun-least g kind.Letter p layers =
    if-least (layers_size layers + 1) (is_ordinary g || is_some (opening g (to_ascii_uppercase p.code))) (Within (Word p.at (to_ascii_uppercase p.code ∷ [])) layers) (omega arith)
begun-least g kind.Ampersand p layers = if-least (layers_size layers + 1) (may_vary g Value) (Within (Sigil Value p.at) layers) (omega arith)
begun-least g _ p layers = tt

behind-least : (g : Grammar) (k : Kind) (tree : Tree) (layers : List Layer) → AtLeast (layers_size layers + size tree) (behind g k tree layers)
behind-least g kind.Blank tree layers = if-least (layers_size layers + size tree) (has_blanks g) (Have tree layers) (omega arith)
behind-least g (kind.Mark operator) tree layers = omega (arith, joined-weight operator (strength operator) tree layers)
behind-least g kind.Close tree layers =
    let f : Folded = fold 0 tree layers in
    weighs-least (layers_size layers + size tree) (layers_size f.layers + size f.tree) (closed f.tree f.layers) (omega (arith, fold-size 0 tree layers)) (closed-weight f.tree f.layers)
behind-least g kind.Comma tree layers =
    let f : Folded = fold 0 tree layers in
    weighs-least (layers_size layers + size tree) (layers_size f.layers + size f.tree + 1) (parted f.tree f.layers) (omega (arith, fold-size 0 tree layers)) (parted-weight f.tree f.layers)
behind-least g _ tree layers = tt

ended-least : (g : Grammar) (found : Option Tree) (k : Kind) (layers : List Layer) → OfOne found → AtLeast (layers_size layers + 1) (ended g found k layers)
ended-least g None k layers e = tt
ended-least g (Some tree) k layers e = subst (λ n. AtLeast (layers_size layers + n) (behind g k tree layers)) e (behind-least g k tree layers)

moved-least : (g : Grammar) (move : Move) (k : Kind) (layers : List Layer) → AtLeast (layers_size layers + 1) (moved g move k layers)
moved-least g (To part) k layers = omega arith
moved-least g (Done form number) k layers = omega arith
moved-least g (Begins asked symbol) k layers = omega arith
moved-least g (Over part) k layers = ended-least g (finish g part) k layers (finish-one g part)

step-least : (g : Grammar) (state : State) (p : Placed) → AtLeast (weight state) (step g state p)
unfolding step
step-least g (Want layers) p = begun-least g (kind_of p.code) p layers
step-least g (Have tree layers) p = behind-least g (kind_of p.code) tree layers
step-least g (Within part layers) p = moved-least g (after g part p) (kind_of p.code) layers

run-least-of : (g : Grammar) (low : ℕ) (found : Option State) (ps : List Placed) (last : State) → AtLeast low found →
    ((state : State) → run g state ps ≡ Some last → weight state ≤ weight last) → option_and_then (λ next. run g next ps) found ≡ Some last → low ≤ weight last
run-least-of g low None ps last h go e = cc
run-least-of g low (Some state) ps last h go e = let m = go state e in omega arith

pub step-weight : (g : Grammar) (state next : State) (p : Placed) → step g state p ≡ Some next → weight state ≤ weight next
step-weight g state next p e = subst (AtLeast (weight state)) e (step-least g state p)

-- no state of a run is larger than its last
pub run-least : (g : Grammar) (ps : List Placed) (state last : State) → run g state ps ≡ Some last → weight state ≤ weight last
run-least g [] state last e = let same : state ≡ last = cc in subst (λ x. weight state ≤ weight x) same (omega arith)
run-least g (p ∷ ps) state last e = run-least-of g (weight state) (step g state p) ps last (step-least g state p) (λ next f. run-least g ps next last f) e

whole_over-size : (found : Tree) (layers : List Layer) (tree : Tree) → whole_over found layers ≡ Some tree → layers_size layers + size found ≡ size tree
whole_over-size found [] tree e = let same : found ≡ tree = cc in subst (λ x. 0 + size found ≡ size x) same (omega arith)
whole_over-size found (layer ∷ layers) tree e = cc

whole-size : (folded : Folded) (tree : Tree) → whole folded ≡ Some tree → layers_size folded.layers + size folded.tree ≡ size tree
whole-size folded tree e = whole_over-size folded.tree folded.layers tree e

accept-part : (g : Grammar) (part : Part) (layers : List Layer) (tree : Tree) (found : Option Tree) → finish g part ≡ found →
    option_and_then whole (option_map (λ t. fold 0 t layers) found) ≡ Some tree → size tree ≡ layers_size layers + 1
accept-part g part layers tree None f e = cc
accept-part g part layers tree (Some one) f e = omega (arith, whole-size (fold 0 one layers) tree e, fold-size 0 one layers, finish-size g part one f)

-- the tree of the whole text is as large as the last state
pub accept-size : (g : Grammar) (state : State) (tree : Tree) → accept g state ≡ Some tree → size tree ≡ weight state
unfolding accept
accept-size g (Want layers) tree e = cc
accept-size g (Have found layers) tree e = omega (arith, whole-size (fold 0 found layers) tree e, fold-size 0 found layers)
accept-size g (Within part layers) tree e = accept-part g part layers tree (finish g part) refl e
