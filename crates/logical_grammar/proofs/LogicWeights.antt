-- How large each state of a logical expression is, beside the one before it.
use Rattle.std.proofs.Common.{◌≡◌, ℕ, ◌+◌, ◌≤◌, Bool, true, false, List, [], ◌∷◌, refl, sym, ◌∙◌, subst, arith}
use Rattle.std.specs.Prelude.{◌==◌, nat_le, Option, Some, None, option_and_then, option_map, if◌then◌else◌}
use Rattle.std.specs.Char.{to_ascii_uppercase}
use Rattle.expression_grammar.specs.declared.character.Grammar.TheVariants.{Arithmetic}
use Rattle.expression_grammar.specs.declared.character.Kind.{Kind}
use Rattle.expression_grammar.specs.declared.character.Kind.TheVariants as kind
use Rattle.expression_grammar.specs.declared.tree.Operator.{Operator}
use Rattle.expression_grammar.specs.declared.tree.Operator.TheVariants.{And, Or, Xor}
use Rattle.expression_grammar.specs.declared.tree.Comparison.{Comparison}
use Rattle.expression_grammar.specs.Characters.{kind_of, strength}
use Rattle.expression_grammar.specs.Trees.{Tree, Pair, Paren, Not, size}
use Rattle.expression_grammar.specs.Spelling.{Placed}
use Rattle.expression_grammar.specs.Reading as reading
use Rattle.expression_grammar.specs.Reading.{State, Have, Want as WantTerm}
use Rattle.character_grammar.specs.TextReading.{TextState, WantPart, WantQuote, text_step, text_accept, text_weight}
use Rattle.logical_grammar.specs.LogicReading.{Open, Negation, LeftOperand, Group, OpenRelation, Point, Want, NotOrAttribute, Letters, Number, Text, BehindText, Comparing, Right, Closed, BehindTruth, LogicState, at_point, Operand, NumberOne, TruthOne, TextOne, number_side, text_side, settled, truth_of, LogicFolded, logic_fold, blanked, grouped, closing, joining, compares, comparing, lettered, behind_one, behind, on_number, on_text, number_begun, text_begun, letter_begun, touching, truth_apart, right_apart, after_first, spelling, after_letters, after_comparing, comparison_of, after_closed, point_step, logic_step, whole_over, whole, logic_accept, open_size, relation_size, text_relation_size, point_weight, logic_weight, logic_run}
use Rattle.expression_grammar.proofs.Weights.{step-weight, run-least, accept-size}
use Rattle.character_grammar.proofs.TextWeights.{text_step-least, text_accept-size}

pub logic_fold-size : (floor : ℕ) (tree : Tree) (layers : List Open) →
    open_size (logic_fold floor tree layers).layers + size (logic_fold floor tree layers).tree ≡ open_size layers + size tree
logic_fold-size floor tree [] = refl
logic_fold-size floor tree (Negation ∷ layers) = omega (arith, logic_fold-size floor (Not tree) layers)
logic_fold-size floor tree (LeftOperand operator left ∷ layers) =
    let otherwise : LogicFolded = record { tree = tree; layers = LeftOperand operator left ∷ layers } in
    elim (nat_le floor (strength operator)) as
    (λ b. open_size (if b then logic_fold floor (Pair operator left tree) layers else otherwise).layers + size (if b then logic_fold floor (Pair operator left tree) layers else otherwise).tree
    ≡ size left + 1 + open_size layers + size tree)
    [ true ↦ omega (arith, logic_fold-size floor (Pair operator left tree) layers) | false ↦ refl ]
logic_fold-size floor tree (Group ∷ layers) = refl

-- a state is at least of this size, if there is one
abbrev LogicLeast : ℕ → Option LogicState → Type 0
LogicLeast low None = Unit {0}
LogicLeast low (Some state) = low ≤ logic_weight state

if-least : (low : ℕ) (b : Bool) (state : LogicState) → low ≤ logic_weight state → LogicLeast low (if b then Some state else None)
if-least low true state h = h
if-least low false state h = tt

if-both : (low : ℕ) (b : Bool) (x y : Option LogicState) → LogicLeast low x → LogicLeast low y → LogicLeast low (if b then x else y)
if-both low true x y h i = h
if-both low false x y h i = i

lower : (low more : ℕ) (found : Option LogicState) → low ≤ more → LogicLeast more found → LogicLeast low found
lower low more None h l = tt
lower low more (Some state) h l = omega arith

-- a text has a comparison and a text to come
abbrev operand_size : Operand → ℕ
operand_size (NumberOne tree) = size tree
operand_size (TruthOne tree) = size tree
operand_size (TextOne tree) = size tree + 2

abbrev AllSized : ℕ → Option Operand → Type 0
AllSized low None = Unit {0}
AllSized low (Some operand) = operand_size operand ≡ low

number_side-size : (relation : Option OpenRelation) (tree : Tree) → operand_size (number_side relation tree) ≡ relation_size relation + size tree
number_side-size None tree = omega arith
number_side-size (Some relation) tree = refl

text_side-size : (relation : Option OpenRelation) (tree : Tree) → operand_size (text_side relation tree) ≡ text_relation_size relation + size tree
text_side-size None tree = omega arith
text_side-size (Some relation) tree = refl

number-sized : (relation : Option OpenRelation) (inner : State) (found : Option Tree) → reading.accept Arithmetic inner ≡ found →
    AllSized (relation_size relation + reading.weight inner) (option_map (number_side relation) found)
number-sized relation inner None e = tt
number-sized relation inner (Some tree) e = omega (arith, number_side-size relation tree, accept-size Arithmetic inner tree e)

text-sized : (relation : Option OpenRelation) (inner : TextState) (found : Option Tree) → text_accept inner ≡ found →
    AllSized (text_relation_size relation + text_weight inner) (option_map (text_side relation) found)
text-sized relation inner None e = tt
text-sized relation inner (Some tree) e = omega (arith, text_side-size relation tree, text_accept-size inner tree e)

settled-sized : (point : Point) → AllSized (point_weight point) (settled point)
settled-sized (Number relation inner touch) = number-sized relation inner (reading.accept Arithmetic inner) refl
settled-sized (Text relation inner touch) = text-sized relation inner (text_accept inner) refl
settled-sized (BehindText text) = refl
settled-sized (Closed inner) = refl
settled-sized (BehindTruth tree) = refl
settled-sized _ = tt

-- Behind an operand.

blanked-least : (operand : Operand) → operand_size operand ≤ point_weight (blanked operand)
blanked-least (NumberOne tree) = omega arith
blanked-least (TruthOne tree) = omega arith
blanked-least (TextOne tree) = omega arith

grouped-least : (tree : Tree) (layers : List Open) → LogicLeast (open_size layers + size tree) (grouped tree layers)
grouped-least tree [] = tt
grouped-least tree (Negation ∷ layers) = tt
grouped-least tree (LeftOperand operator left ∷ layers) = tt
grouped-least tree (Group ∷ layers) = omega arith

folded-least : (tree : Tree) (layers : List Open) → LogicLeast (open_size layers + size tree) (grouped (logic_fold 0 tree layers).tree (logic_fold 0 tree layers).layers)
folded-least tree layers =
    let f : LogicFolded = logic_fold 0 tree layers in
    lower (open_size layers + size tree) (open_size f.layers + size f.tree) (grouped f.tree f.layers) (omega (arith, logic_fold-size 0 tree layers)) (grouped-least f.tree f.layers)

closing-least : (operand : Operand) (layers : List Open) → LogicLeast (open_size layers + operand_size operand) (closing operand layers)
closing-least (NumberOne tree) (Group ∷ layers) = omega arith
closing-least (NumberOne tree) [] = folded-least tree []
closing-least (NumberOne tree) (Negation ∷ layers) = folded-least tree (Negation ∷ layers)
closing-least (NumberOne tree) (LeftOperand operator left ∷ layers) = folded-least tree (LeftOperand operator left ∷ layers)
closing-least (TruthOne tree) layers = folded-least tree layers
closing-least (TextOne tree) layers = tt

joining-least : (operator : Operator) (rest : List ℕ) (operand : Operand) (layers : List Open) → LogicLeast (open_size layers + operand_size operand) (joining operator rest (truth_of operand) layers)
joining-least operator rest (NumberOne tree) layers = omega (arith, logic_fold-size (strength operator) tree layers)
joining-least operator rest (TruthOne tree) layers = omega (arith, logic_fold-size (strength operator) tree layers)
joining-least operator rest (TextOne tree) layers = tt

comparing-least : (operand : Operand) (letter : ℕ) (layers : List Open) → LogicLeast (open_size layers + operand_size operand) (comparing operand letter layers)
comparing-least (NumberOne tree) letter layers = if-least (open_size layers + size tree) (compares letter) (at_point layers (Comparing letter false tree)) (omega arith)
comparing-least (TextOne tree) letter layers = if-least (open_size layers + (size tree + 2)) (compares letter) (at_point layers (Comparing letter true tree)) (omega arith)
comparing-least (TruthOne tree) letter layers = tt

lettered-least : (operand : Operand) (letter : ℕ) (layers : List Open) → LogicLeast (open_size layers + operand_size operand) (lettered operand letter layers)
lettered-least operand letter layers =
    let low : ℕ = open_size layers + operand_size operand in
    if-both low (letter == 65) _ _ (joining-least And (78 ∷ 68 ∷ []) operand layers)
    (if-both low (letter == 79) _ _ (joining-least Or (82 ∷ []) operand layers)
    (if-both low (letter == 88) _ _ (joining-least Xor (79 ∷ 82 ∷ []) operand layers) (comparing-least operand letter layers)))

unless-least : (low : ℕ) (b : Bool) (found : Option LogicState) → LogicLeast low found → LogicLeast low (if b then None else found)
unless-least low true found h = tt
unless-least low false found h = h

behind_one-least : (operand : Operand) (touch : Bool) (k : Kind) (c : ℕ) (layers : List Open) → LogicLeast (open_size layers + operand_size operand) (behind_one operand touch k c layers)
behind_one-least operand touch kind.Blank c layers = omega (arith, blanked-least operand)
behind_one-least operand touch kind.Close c layers = closing-least operand layers
behind_one-least operand touch kind.Letter c layers =
    unless-least (open_size layers + operand_size operand) touch (lettered operand (to_ascii_uppercase c) layers) (lettered-least operand (to_ascii_uppercase c) layers)
behind_one-least operand touch _ c layers = tt

behind-least : (low : ℕ) (found : Option Operand) (touch : Bool) (p : Placed) (layers : List Open) → AllSized low found → LogicLeast (open_size layers + low) (behind found touch p layers)
behind-least low None touch p layers e = tt
behind-least low (Some operand) touch p layers e =
    subst (λ n. LogicLeast (open_size layers + n) (behind_one operand touch (kind_of p.code) p.code layers)) e (behind_one-least operand touch (kind_of p.code) p.code layers)

-- Within an operand.

abbrev StateLeast : ℕ → Option State → Type 0
StateLeast low None = Unit {0}
StateLeast low (Some state) = low ≤ reading.weight state

abbrev TextLeast : ℕ → Option TextState → Type 0
TextLeast low None = Unit {0}
TextLeast low (Some state) = low ≤ text_weight state

on_number-least : (low : ℕ) (relation : Option OpenRelation) (next : Option State) (found : Option Operand) (touch : Bool) (p : Placed) (layers : List Open) →
    StateLeast low next → AllSized (relation_size relation + low) found → LogicLeast (open_size layers + (relation_size relation + low)) (on_number relation next found touch p layers)
on_number-least low relation None found touch p layers h e = behind-least (relation_size relation + low) found touch p layers e
on_number-least low relation (Some next) found touch p layers h e = omega arith

on_text-least : (low : ℕ) (relation : Option OpenRelation) (next : Option TextState) (found : Option Operand) (touch : Bool) (p : Placed) (layers : List Open) →
    TextLeast low next → AllSized (text_relation_size relation + low) found → LogicLeast (open_size layers + (text_relation_size relation + low)) (on_text relation next found touch p layers)
on_text-least low relation None found touch p layers h e = behind-least (text_relation_size relation + low) found touch p layers e
on_text-least low relation (Some next) found touch p layers h e = omega arith

step-least : (inner : State) (p : Placed) (found : Option State) → reading.step Arithmetic inner p ≡ found → StateLeast (reading.weight inner) found
step-least inner p None e = tt
step-least inner p (Some next) e = step-weight Arithmetic inner next p e

two-least : (first p : Placed) (found : Option State) → reading.run Arithmetic (WantTerm []) (first ∷ p ∷ []) ≡ found → StateLeast 1 found
two-least first p None e = tt
two-least first p (Some next) e = let least : reading.weight (WantTerm []) ≤ reading.weight next = run-least Arithmetic (first ∷ p ∷ []) (WantTerm []) next e in omega arith

-- Where an operand is wanted.

number_begun-least : (relation : Option OpenRelation) (p : Placed) (layers : List Open) → LogicLeast (open_size layers + (relation_size relation + 1)) (number_begun relation p layers)
number_begun-least relation p layers =
    on_number-least 1 relation (reading.step Arithmetic (WantTerm []) p) None false p layers (step-least (WantTerm []) p (reading.step Arithmetic (WantTerm []) p) refl) tt

text_begun-least : (relation : Option OpenRelation) (p : Placed) (layers : List Open) → LogicLeast (open_size layers + (text_relation_size relation + 1)) (text_begun relation p layers)
text_begun-least relation p layers =
    on_text-least 1 relation (text_step (WantPart None) p) None false p layers (text_step-least (WantPart None) p) tt

truth-text : (p : Placed) (layers : List Open) → LogicLeast (open_size layers + 1) (text_begun None p layers)
truth-text p layers = lower (open_size layers + 1) (open_size layers + (2 + 1)) (text_begun None p layers) (omega arith) (text_begun-least None p layers)

truth-number : (p : Placed) (layers : List Open) → LogicLeast (open_size layers + 1) (number_begun None p layers)
truth-number p layers = number_begun-least None p layers

letter_begun-least : (letter : ℕ) (p : Placed) (layers : List Open) → LogicLeast (open_size layers + 1) (letter_begun letter p layers)
letter_begun-least letter p layers =
    if-both (open_size layers + 1) (letter == 78) _ _ (omega arith) (if-both (open_size layers + 1) (letter == 84) _ _ (truth-text p layers) (truth-number p layers))

truth_apart-least : (k : Kind) (p : Placed) (layers : List Open) → LogicLeast (open_size layers + 1) (truth_apart k p layers)
truth_apart-least kind.Blank p layers = omega arith
truth_apart-least kind.Open p layers = omega arith
truth_apart-least kind.Quote p layers = truth-text p layers
truth_apart-least kind.Letter p layers = letter_begun-least (to_ascii_uppercase p.code) p layers
truth_apart-least _ p layers = truth-number p layers

right-side : (is_text : Bool) (relation : OpenRelation) (p : Placed) (layers : List Open) →
    LogicLeast (open_size layers + (size relation.left + 2)) (if is_text then text_begun (Some relation) p layers else number_begun (Some relation) p layers)
right-side is_text relation p layers =
    if-both (open_size layers + (size relation.left + 2)) is_text _ _
    (lower (open_size layers + (size relation.left + 2)) (open_size layers + ((size relation.left + 1) + 1)) (text_begun (Some relation) p layers) (omega arith) (text_begun-least (Some relation) p layers))
    (lower (open_size layers + (size relation.left + 2)) (open_size layers + ((size relation.left + 1) + 1)) (number_begun (Some relation) p layers) (omega arith) (number_begun-least (Some relation) p layers))

right_apart-least : (is_text : Bool) (relation : OpenRelation) (k : Kind) (p : Placed) (layers : List Open) → LogicLeast (open_size layers + (size relation.left + 2)) (right_apart is_text relation k p layers)
right_apart-least is_text relation kind.Blank p layers = omega arith
right_apart-least is_text relation _ p layers = right-side is_text relation p layers

after_first-least : (first : Placed) (k : Kind) (p : Placed) (layers : List Open) → LogicLeast (open_size layers + 1) (after_first first k p layers)
after_first-least first kind.Quote p layers =
    on_number-least 1 None (reading.run Arithmetic (WantTerm []) (first ∷ p ∷ [])) None false p layers (two-least first p (reading.run Arithmetic (WantTerm []) (first ∷ p ∷ [])) refl) tt
after_first-least first kind.Letter p layers = if-least (open_size layers + 1) (to_ascii_uppercase p.code == 79) (at_point (Negation ∷ layers) (Letters (84 ∷ []))) (omega arith)
after_first-least first _ p layers = tt

-- Within a word, and behind a number in parentheses.

spelling-weight : (rest : List ℕ) → point_weight (spelling rest) ≡ 1
spelling-weight [] = refl
spelling-weight (letter ∷ rest) = refl

after_letters-least : (rest : List ℕ) (letter : ℕ) (layers : List Open) → LogicLeast (open_size layers + 1) (after_letters rest letter layers)
after_letters-least [] letter layers = tt
after_letters-least (wanted ∷ rest) letter layers = if-least (open_size layers + 1) (letter == wanted) (at_point layers (spelling rest)) (omega (arith, spelling-weight rest))

after_comparing-least : (found : Option Comparison) (is_text : Bool) (left : Tree) (layers : List Open) → LogicLeast (open_size layers + (size left + 2)) (after_comparing found is_text left layers)
after_comparing-least None is_text left layers = tt
after_comparing-least (Some comparison) is_text left layers = omega arith

closed-quote : (inner : Tree) (p : Placed) (layers : List Open) → LogicLeast (open_size layers + (1 + size inner)) (on_text None (text_step (WantQuote None inner) p) None false p layers)
closed-quote inner p layers =
    lower (open_size layers + (1 + size inner)) (open_size layers + (2 + (0 + size inner + 2))) (on_text None (text_step (WantQuote None inner) p) None false p layers) (omega arith)
    (on_text-least (0 + size inner + 2) None (text_step (WantQuote None inner) p) None false p layers (text_step-least (WantQuote None inner) p) tt)

closed-number : (inner : Tree) (p : Placed) (layers : List Open) →
    LogicLeast (open_size layers + (1 + size inner)) (on_number None (reading.step Arithmetic (Have (Paren inner) []) p) (Some (NumberOne (Paren inner))) false p layers)
closed-number inner p layers =
    lower (open_size layers + (1 + size inner)) (open_size layers + (0 + (0 + (1 + size inner)))) (on_number None (reading.step Arithmetic (Have (Paren inner) []) p) (Some (NumberOne (Paren inner))) false p layers) (omega arith)
    (on_number-least (0 + (1 + size inner)) None (reading.step Arithmetic (Have (Paren inner) []) p) (Some (NumberOne (Paren inner))) false p layers
    (step-least (Have (Paren inner) []) p (reading.step Arithmetic (Have (Paren inner) []) p) refl) (omega arith))

after_closed-least : (inner : Tree) (k : Kind) (p : Placed) (layers : List Open) → LogicLeast (open_size layers + (1 + size inner)) (after_closed inner k p layers)
after_closed-least inner kind.Quote p layers = closed-quote inner p layers
after_closed-least inner _ p layers = closed-number inner p layers

point_step-least : (point : Point) (p : Placed) (layers : List Open) → LogicLeast (open_size layers + point_weight point) (point_step point p layers)
point_step-least (Want touch) p layers = unless-least (open_size layers + 1) (touching touch p) (truth_apart (kind_of p.code) p layers) (truth_apart-least (kind_of p.code) p layers)
point_step-least (NotOrAttribute first) p layers = after_first-least first (kind_of p.code) p layers
point_step-least (Letters rest) p layers = after_letters-least rest (to_ascii_uppercase p.code) layers
point_step-least (Number relation inner touch) p layers =
    on_number-least (reading.weight inner) relation (reading.step Arithmetic inner p) (settled (Number relation inner touch)) touch p layers
    (step-least inner p (reading.step Arithmetic inner p) refl) (settled-sized (Number relation inner touch))
point_step-least (Text relation inner touch) p layers =
    on_text-least (text_weight inner) relation (text_step inner p) (settled (Text relation inner touch)) touch p layers
    (text_step-least inner p) (settled-sized (Text relation inner touch))
point_step-least (BehindText text) p layers = behind-least (size text + 2) (Some (TextOne text)) false p layers refl
point_step-least (Comparing letter is_text left) p layers = after_comparing-least (comparison_of letter (to_ascii_uppercase p.code)) is_text left layers
point_step-least (Right is_text relation touch) p layers =
    unless-least (open_size layers + (size relation.left + 2)) (touching touch p) (right_apart is_text relation (kind_of p.code) p layers) (right_apart-least is_text relation (kind_of p.code) p layers)
point_step-least (Closed inner) p layers = after_closed-least inner (kind_of p.code) p layers
point_step-least (BehindTruth tree) p layers = behind-least (size tree) (Some (TruthOne tree)) false p layers refl

logic_step-least : (state : LogicState) (p : Placed) → LogicLeast (logic_weight state) (logic_step state p)
unfolding logic_step
logic_step-least state p = point_step-least state.point p state.layers

pub logic_step-weight : (state next : LogicState) (p : Placed) → logic_step state p ≡ Some next → logic_weight state ≤ logic_weight next
logic_step-weight state next p e = subst (LogicLeast (logic_weight state)) e (logic_step-least state p)

logic_run-least_of : (low : ℕ) (found : Option LogicState) (ps : List Placed) (last : LogicState) → LogicLeast low found →
    ((state : LogicState) → logic_run state ps ≡ Some last → logic_weight state ≤ logic_weight last) → option_and_then (λ next. logic_run next ps) found ≡ Some last → low ≤ logic_weight last
logic_run-least_of low None ps last h go e = cc
logic_run-least_of low (Some state) ps last h go e = let m = go state e in omega arith

-- no state of a run is larger than its last
pub logic_run-least : (ps : List Placed) (state next : LogicState) → logic_run state ps ≡ Some next → logic_weight state ≤ logic_weight next
logic_run-least [] state next e = let same : state ≡ next = cc in subst (λ x. logic_weight state ≤ logic_weight x) same (omega arith)
logic_run-least (p ∷ ps) state next e = logic_run-least_of (logic_weight state) (logic_step state p) ps next (logic_step-least state p) (λ one f. logic_run-least ps one next f) e

-- The tree of a whole text.

whole_over-size : (found : Tree) (layers : List Open) (tree : Tree) → whole_over found layers ≡ Some tree → open_size layers + size found ≡ size tree
whole_over-size found [] tree e = let same : found ≡ tree = cc in subst (λ x. 0 + size found ≡ size x) same (omega arith)
whole_over-size found (layer ∷ layers) tree e = cc

whole-size : (found : Tree) (layers : List Open) (tree : Tree) → whole layers found ≡ Some tree → open_size layers + size found ≡ size tree
whole-size found layers tree e =
    let f : LogicFolded = logic_fold 0 found layers in
    sym (logic_fold-size 0 found layers) ∙ whole_over-size f.tree f.layers tree e

accepted-size : (low : ℕ) (layers : List Open) (found : Option Operand) (tree : Tree) → AllSized low found → option_and_then (whole layers) (option_and_then truth_of found) ≡ Some tree →
    size tree ≡ open_size layers + low
accepted-size low layers None tree h e = cc
accepted-size low layers (Some (NumberOne one)) tree h e = omega (arith, whole-size one layers tree e)
accepted-size low layers (Some (TruthOne one)) tree h e = omega (arith, whole-size one layers tree e)
accepted-size low layers (Some (TextOne one)) tree h e = cc

-- the tree of the whole text is as large as the last state
pub logic_accept-size : (state : LogicState) (tree : Tree) → logic_accept state ≡ Some tree → size tree ≡ logic_weight state
unfolding logic_accept
logic_accept-size state tree e = accepted-size (point_weight state.point) state.layers (settled state.point) tree (settled-sized state.point) e
