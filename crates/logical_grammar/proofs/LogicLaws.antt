-- Runs of the reader of logical expressions, what touches a word, and what folding leaves open.
use Rattle.std.proofs.Common.{◌≡◌, ℕ, ◌<◌, ◌≤◌, Bool, true, false, List, [], ◌∷◌, ◌++◌, refl, sym, ap, ◌∙◌, arith}
use Rattle.std.specs.Prelude.{◌==◌, ◌&&◌, nat_le, Option, Some, None, IsTrue, option_and_then, if◌then◌else◌}
use Rattle.std.specs.Char.{to_ascii_uppercase}
use Rattle.std.proofs.lemmas.Bool.Decides.{nat_tests}
use Rattle.hl_base.specs.Symbols.{is_letter, is_symbol_character}
use Rattle.expression_grammar.specs.declared.character.Grammar.TheVariants.{Arithmetic}
use Rattle.expression_grammar.specs.declared.character.Kind.{Kind}
use Rattle.expression_grammar.specs.declared.character.Kind.TheVariants as kind
use Rattle.expression_grammar.specs.declared.tree.Operator.{Operator}
use Rattle.expression_grammar.specs.declared.tree.Operator.TheVariants.{And, Or, Xor}
use Rattle.expression_grammar.specs.Characters.{kind_of, strength}
use Rattle.expression_grammar.specs.Trees.{Tree, Pair}
use Rattle.expression_grammar.specs.Spelling.{Placed, IsGap}
use Rattle.logical_grammar.specs.Logics.{is_logical, capitals, touches_behind, touches_ahead}
use Rattle.logical_grammar.specs.LogicReading.{Open, Negation, LeftOperand, Group, OpenRelation, Point, Want, Letters, Right, LogicState, at_point, logic_fold, truth_apart, right_apart, spelling, after_letters, point_step, logic_step, logic_run}
use Rattle.logical_grammar.specs.LogicStanding.{Takes}
use Rattle.expression_grammar.proofs.CharacterLaws.{letter-kind, upper-letter, IsNaming, by_letter, by_digit, symbol-kind}
use Rattle.expression_grammar.proofs.Completions.{if-true}
use Rattle.expression_grammar.proofs.Leads.{le-test}
use Rattle.character_grammar.proofs.TextPlain.{same-test}

-- Runs.

-- a step at a point
pub point-steps : (point : Point) (layers : List Open) (next : LogicState) (p : Placed) (ps : List Placed) → point_step point p layers ≡ Some next →
    logic_run (at_point layers point) (p ∷ ps) ≡ logic_run next ps
unfolding logic_step
point-steps point layers next p ps e = ap (option_and_then (λ s. logic_run s ps)) e

logic_run-append_of : (ps qs : List Placed) (next : LogicState) (found : Option LogicState) → ((s : LogicState) → logic_run s ps ≡ Some next → logic_run s (ps ++ qs) ≡ logic_run next qs) →
    option_and_then (λ s. logic_run s ps) found ≡ Some next → option_and_then (λ s. logic_run s (ps ++ qs)) found ≡ logic_run next qs
logic_run-append_of ps qs next None go e = cc
logic_run-append_of ps qs next (Some state) go e = go state e

-- a run is a run of its parts
pub logic_run-append : (ps qs : List Placed) (state next : LogicState) → logic_run state ps ≡ Some next → logic_run state (ps ++ qs) ≡ logic_run next qs
logic_run-append [] qs state next e = let same : state ≡ next = cc in ap (λ x. logic_run x qs) same
logic_run-append (p ∷ ps) qs state next e = logic_run-append_of ps qs next (logic_step state p) (λ s f. logic_run-append ps qs s next f) e

-- What touches a word.

abbrev is_naming : Kind → Bool
is_naming kind.Letter = true
is_naming kind.Digit = true
is_naming _ = false

naming-is : (c : ℕ) → IsNaming c → is_naming (kind_of c) ≡ true
naming-is c (by_letter e) = ap is_naming e
naming-is c (by_digit e) = ap is_naming e

-- only letters and digits are symbol characters
pub kind-apart : (c : ℕ) (k : Kind) → kind_of c ≡ k → is_naming k ≡ false → is_symbol_character c ≡ false
kind-apart c k e n =
    let go : (b : Bool) → is_symbol_character c ≡ b → b ≡ false =
    elim [ true ↦ λ t. let yes : true ≡ false = sym (naming-is c (symbol-kind c t)) ∙ ap is_naming e ∙ n in cc | false ↦ λ t. refl ] in
    go (is_symbol_character c) refl

pub touches-append : (before : Bool) (front back : List Placed) → touches_behind before (front ++ back) ≡ touches_behind (touches_behind before front) back
touches-append before [] back = refl
touches-append before (p ∷ front) back = touches-append (is_symbol_character p.code) front back

pub touches-all : (before : Bool) (text front core back : List Placed) → text ≡ front ++ (core ++ back) →
    touches_behind before text ≡ touches_behind (touches_behind (touches_behind before front) core) back
touches-all before text front core back e =
    ap (touches_behind before) e ∙ touches-append before front (core ++ back) ∙ touches-append (touches_behind before front) core back

pub gap-apart : (gap : List Placed) → IsGap Arithmetic gap → touches_behind false gap ≡ false
gap-apart [] i = refl
gap-apart (p ∷ gap) i = ap (λ b. touches_behind b gap) (kind-apart p.code kind.Blank i.1 refl) ∙ gap-apart gap i.2

-- a character that touches no word
pub want-apart : (layers : List Open) (touch : Bool) (p : Placed) (ps : List Placed) → (touch && touches_ahead (p ∷ ps)) ≡ false →
    logic_run (at_point layers (Want touch)) (p ∷ ps) ≡ logic_run (at_point layers (Want false)) (p ∷ ps)
unfolding logic_step
want-apart layers touch p ps e = ap (λ b. option_and_then (λ s. logic_run s ps) (if b then None else truth_apart (kind_of p.code) p layers)) e

pub right-apart : (layers : List Open) (is_text : Bool) (relation : OpenRelation) (touch : Bool) (p : Placed) (ps : List Placed) → (touch && touches_ahead (p ∷ ps)) ≡ false →
    logic_run (at_point layers (Right is_text relation touch)) (p ∷ ps) ≡ logic_run (at_point layers (Right is_text relation false)) (p ∷ ps)
unfolding logic_step
right-apart layers is_text relation touch p ps e = ap (λ b. option_and_then (λ s. logic_run s ps) (if b then None else right_apart is_text relation (kind_of p.code) p layers)) e

-- Blanks.

pub want-gap : (layers : List Open) (gap back : List Placed) → IsGap Arithmetic gap → logic_run (at_point layers (Want false)) (gap ++ back) ≡ logic_run (at_point layers (Want false)) back
want-gap layers [] back i = refl
want-gap layers (p ∷ gap) back i =
    point-steps (Want false) layers (at_point layers (Want false)) p (gap ++ back) (ap (λ k. truth_apart k p layers) i.1) ∙ want-gap layers gap back i.2

pub right-gap : (layers : List Open) (is_text : Bool) (relation : OpenRelation) (gap back : List Placed) → IsGap Arithmetic gap →
    logic_run (at_point layers (Right is_text relation false)) (gap ++ back) ≡ logic_run (at_point layers (Right is_text relation false)) back
right-gap layers is_text relation [] back i = refl
right-gap layers is_text relation (p ∷ gap) back i =
    point-steps (Right is_text relation false) layers (at_point layers (Right is_text relation false)) p (gap ++ back) (ap (λ k. right_apart is_text relation k p layers) i.1)
    ∙ right-gap layers is_text relation gap back i.2

-- Words.

letter-taken : (wanted : ℕ) (rest : List ℕ) (letter : ℕ) (layers : List Open) → letter ≡ wanted → after_letters (wanted ∷ rest) letter layers ≡ Some (at_point layers (spelling rest))
letter-taken wanted rest letter layers e = if-true (letter == wanted) (Some (at_point layers (spelling rest))) None (same-test letter wanted e)

-- the letters of a word that are to come
pub word-runs : (layers : List Open) (letters back : List Placed) (word : List ℕ) → capitals letters ≡ word →
    logic_run (at_point layers (spelling word)) (letters ++ back) ≡ logic_run (at_point layers (spelling [])) back
word-runs layers [] back [] e = refl
word-runs layers [] back (wanted ∷ word) e = cc
word-runs layers (p ∷ letters) back [] e = cc
word-runs layers (p ∷ letters) back (wanted ∷ word) e =
    let one : to_ascii_uppercase p.code ≡ wanted = cc in
    let rest : capitals letters ≡ word = cc in
    point-steps (Letters (wanted ∷ word)) layers (at_point layers (spelling word)) p (letters ++ back) (letter-taken wanted word (to_ascii_uppercase p.code) layers one)
    ∙ word-runs layers letters back word rest

pub capital-kind : (c u : ℕ) → to_ascii_uppercase c ≡ u → is_letter u ≡ true → kind_of c ≡ kind.Letter
capital-kind c u e l = letter-kind c (upper-letter c u e l)

-- a word, its first letter apart
pub record FirstLetter (letter : ℕ) (word : List ℕ) (letters : List Placed) : Type 0 where
  pub first : Placed
  pub others : List Placed
  pub both : letters ≡ first ∷ others
  pub upper : to_ascii_uppercase first.code ≡ letter
  pub named : capitals others ≡ word

pub first-letter : (letter : ℕ) (word : List ℕ) (letters : List Placed) → capitals letters ≡ letter ∷ word → FirstLetter letter word letters
first-letter letter word [] e = cc
first-letter letter word (p ∷ letters) e = record { first = p; others = letters; both = refl; upper = cc; named = cc }

-- Folding.

gt-test : (a b : ℕ) → b < a → nat_le a b ≡ false
gt-test a b h = grind (arith, nat_tests)

if-false : {A : Type 0} (b : Bool) (x y : A) → b ≡ false → (if b then x else y) ≡ y
if-false true x y e = cc
if-false false x y e = refl

-- what takes an operator does not fold at its strength
pub logic_fold-none : (floor : ℕ) (tree : Tree) (layers : List Open) → floor < 3 → Takes layers floor → logic_fold floor tree layers ≡ record { tree = tree; layers = layers }
logic_fold-none floor tree [] h t = refl
logic_fold-none floor tree (Negation ∷ layers) h t = absurd (omega arith)
logic_fold-none floor tree (LeftOperand operator left ∷ layers) h t =
    if-false (nat_le floor (strength operator)) (logic_fold floor (Pair operator left tree) layers) (record { tree = tree; layers = LeftOperand operator left ∷ layers }) (gt-test floor (strength operator) t)
logic_fold-none floor tree (Group ∷ layers) h t = refl

pub takes-more : (layers : List Open) (low high : ℕ) → low ≤ high → Takes layers low → Takes layers high
takes-more [] low high h t = tt
takes-more (Negation ∷ layers) low high h t = omega arith
takes-more (LeftOperand operator left ∷ layers) low high h t = omega arith
takes-more (Group ∷ layers) low high h t = tt

pub logical-strength : (operator : Operator) → IsTrue (is_logical operator) → strength operator < 3
logical-strength And i = omega arith
logical-strength Or i = omega arith
logical-strength Xor i = omega arith
logical-strength _ i = cc

pub pair-folds : (floor : ℕ) (operator : Operator) (left right : Tree) (layers : List Open) → floor ≤ strength operator →
    logic_fold floor right (LeftOperand operator left ∷ layers) ≡ logic_fold floor (Pair operator left right) layers
pair-folds floor operator left right layers h =
    if-true (nat_le floor (strength operator)) (logic_fold floor (Pair operator left right) layers) (record { tree = right; layers = LeftOperand operator left ∷ layers }) (le-test floor (strength operator) h)
