-- That what is read of a text is what the grammar says.
use Rattle.std.proofs.Common.{◌≡◌, ℕ, ◌+◌, ◌<◌, ◌↔◌, Bool, true, false, List, [], ◌∷◌, ◌++◌, length, take, get_or, refl, sym, ap, ◌∙◌, subst, inl, inr, arith, append_assoc, length-append}
use Rattle.std.specs.Prelude.{Option, Some, None, Result, Ok, Err, ◌==◌, nat_lt, slice_index}
use Rattle.std.proofs.Math.Seq.{get_or-append_seam}
use Rattle.std.proofs.lemmas.Bool.{cases_Bool, ltb-true, ltb-false}
use Rattle.std.proofs.lemmas.Bool.Decides.{nat_tests}
use Rattle.std.proofs.lemmas.List.{get_or_past}
use Rattle.expression_grammar.specs.declared.character.Grammar.TheVariants.{Arithmetic}
use Rattle.expression_grammar.specs.declared.tree.Reference.TheVariants.{Value}
use Rattle.expression_grammar.specs.Trees.{Tree, Variable}
use Rattle.expression_grammar.specs.Spelling.{Placed, IsExpression, IsViable, IsAt, Spells, most_parts}
use Rattle.expression_grammar.specs.Readings.{going, ended, read_by, Front, closed_by, front_by, variable_by, variable_only}
use Rattle.expression_grammar.specs.Fronts.{IsClosed, IsVariableClosed, IsFirst, IsReach, IsNoFront}
use Rattle.expression_grammar.proofs.Pieces.{append-nil}
use Rattle.expression_grammar.proofs.Finds.{take-all}

-- What a reader does that comes from text to text: it goes on while some expression does, and at its end it has the tree.
pub record Reader (Written : List ℕ → Tree → Type 0) {State : Type 0} (step : State → Placed → Option State) (end : State → Option Tree) (Reaches : List ℕ → State → Type 0) : Type 0 where
  pub goes : (text : List ℕ) (c : ℕ) (state next : State) → Reaches text state → step state (record { at = length text; code = c }) ≡ Some next → Reaches (text ++ c ∷ []) next
  pub stops : (text : List ℕ) (c : ℕ) (rest : List ℕ) (state : State) → Reaches text state → step state (record { at = length text; code = c }) ≡ None → IsAt Written most_parts (text ++ c ∷ rest) (length text)
  pub whole : (text : List ℕ) (state : State) (tree : Tree) → Reaches text state → end state ≡ Some tree → IsExpression Written most_parts text tree
  pub partly : (text : List ℕ) (state : State) → Reaches text state → end state ≡ None → IsAt Written most_parts text (length text)
  pub viable : (text : List ℕ) (state : State) → Reaches text state → IsViable Written most_parts text
  pub one : (text : List ℕ) (tree other : Tree) → Written text tree → Written text other → tree ≡ other

-- what a reading says of a text
abbrev pub Finds : (List ℕ → Tree → Type 0) → List ℕ → Result Tree ℕ → Type 0
Finds Written text (Ok tree) = IsExpression Written most_parts text tree
Finds Written text (Err count) = IsAt Written most_parts text count

-- what the reading of a front says
abbrev pub FindsFront : (List ℕ → Tree → Type 0) → (ℕ → Tree → Type 0) → List ℕ → Result Front ℕ → Type 0
FindsFront Written Ends text (Ok front) = IsFirst Ends front.before front.tree
FindsFront Written Ends text (Err count) = IsNoFront Written Ends text count

-- nothing ends before a place
abbrev pub NoneBefore : (ℕ → Tree → Type 0) → ℕ → Type 0
NoneBefore Ends n = (earlier : ℕ) (tree : Tree) → earlier < n → Ends earlier tree → ⊥

-- a text that is an expression is the front of one
pub whole-viable : (Written : List ℕ → Tree → Type 0) (text : List ℕ) (tree : Tree) → IsExpression Written most_parts text tree → IsViable Written most_parts text
whole-viable Written text tree e = record { rest = []; tree = tree; expression = subst (λ (xs : List ℕ). IsExpression Written most_parts xs tree) (sym (append-nil text)) e }

-- a place at which there is a character is within the text
here-within : (all : List ℕ) (n : ℕ) → slice_index all n ≡ 41 → n < length all
here-within all n e = elim (cases_Bool (nat_lt n (length all))) [
  | inl less ↦ ltb-true n (length all) less
  | inr more ↦ let none : get_or all n 0 ≡ 0 = get_or_past all n 0 (ltb-false n (length all) more) in let some : get_or all n 0 ≡ 41 = e in absurd (omega arith)
]

-- the character behind a front
seam : (all text cs : List ℕ) (c : ℕ) → all ≡ text ++ c ∷ cs → slice_index all (length text) ≡ c
seam all text cs c e = ap (λ xs. get_or xs (length text) 0) e ∙ get_or-append_seam text c cs 0

is-close : (c : ℕ) → (c == 41) ≡ true → c ≡ 41
is-close c e = grind (arith, nat_tests)

no-close : (c : ℕ) → (c == 41) ≡ false → c ≡ 41 → ⊥
no-close c e f = grind (arith, nat_tests)

at-reach : (Written : List ℕ → Tree → Type 0) (text : List ℕ) (n : ℕ) → IsAt Written most_parts text n → IsReach Written text n
at-reach Written text n a = record { within = a.within; viable = a.viable; longest = a.longest }

reach-once : (Written : List ℕ → Tree → Type 0) (text : List ℕ) (n m : ℕ) → IsReach Written text n → IsReach Written text m → n ≡ m
reach-once Written text n m a b = elim (cases_Bool (nat_lt n m)) [
  | inl less ↦ absurd (a.longest m (ltb-true n m less) b.within b.viable)
  | inr more ↦ elim (cases_Bool (nat_lt m n)) [
    | inl less ↦ absurd (b.longest n (ltb-true m n less) a.within a.viable)
    | inr most ↦ let x = ltb-false n m more in let y = ltb-false m n most in omega arith
  ]
]

-- What a reading says, both ways.

pub read-tree : (Written : List ℕ → Tree → Type 0) (text : List ℕ) (found : Result Tree ℕ) → Finds Written text found →
    ((t : List ℕ) (tree other : Tree) → Written t tree → Written t other → tree ≡ other) → (tree : Tree) → (found ≡ Ok tree) ↔ IsExpression Written most_parts text tree
read-tree Written text (Ok found) f one tree = (
  λ e. let same : found ≡ tree = cc in subst (IsExpression Written most_parts text) same f,
  λ i. ap Ok (one text found tree f.spells i.spells),
)
read-tree Written text (Err count) f one tree = (λ e. absurd (let x = e in cc), λ i. absurd (f.none tree i))

pub read-fault : (Written : List ℕ → Tree → Type 0) (text : List ℕ) (found : Result Tree ℕ) → Finds Written text found → (count : ℕ) → (found ≡ Err count) ↔ IsAt Written most_parts text count
read-fault Written text (Ok found) f count = (λ e. absurd (let x = e in cc), λ a. absurd (a.none found f))
read-fault Written text (Err n) f count = (
  λ e. let same : n ≡ count = cc in subst (IsAt Written most_parts text) same f,
  λ a. ap Err (reach-once Written text n count (at-reach Written text n f) (at-reach Written text count a)),
)

first-once : (Ends : ℕ → Tree → Type 0) (n m : ℕ) (tree other : Tree) → IsFirst Ends n tree → IsFirst Ends m other → n ≡ m
first-once Ends n m tree other a b = elim (cases_Bool (nat_lt n m)) [
  | inl less ↦ absurd (b.first n tree (ltb-true n m less) a.here)
  | inr more ↦ elim (cases_Bool (nat_lt m n)) [
    | inl less ↦ absurd (a.first m other (ltb-true m n less) b.here)
    | inr most ↦ let x = ltb-false n m more in let y = ltb-false m n most in omega arith
  ]
]

fronts-same : (one other : Front) → one.tree ≡ other.tree → one.before ≡ other.before → one ≡ other
fronts-same one other t b =
    let first : one ≡ record { tree = other.tree; before = one.before } = ap (λ x. record { tree = x; before = one.before }) t in
    first ∙ ap (λ n. record { tree = other.tree; before = n }) b

pub front-tree : (Written : List ℕ → Tree → Type 0) (Ends : ℕ → Tree → Type 0) (text : List ℕ) (found : Result Front ℕ) → FindsFront Written Ends text found →
    ((n : ℕ) (tree other : Tree) → Ends n tree → Ends n other → tree ≡ other) → (front : Front) → (found ≡ Ok front) ↔ IsFirst Ends front.before front.tree
front-tree Written Ends text (Ok found) f one front = (
  λ e. let same : found ≡ front = cc in subst (λ (x : Front). IsFirst Ends x.before x.tree) same f,
  λ i.
      let place : found.before ≡ front.before = first-once Ends found.before front.before found.tree front.tree f i in
      ap Ok (fronts-same found front (one front.before found.tree front.tree (subst (λ (n : ℕ). Ends n found.tree) place f.here) i.here) place),
)
front-tree Written Ends text (Err count) f one front = (λ e. absurd (let x = e in cc), λ i. absurd (f.never front.before front.tree i.here))

pub front-fault : (Written : List ℕ → Tree → Type 0) (Ends : ℕ → Tree → Type 0) (text : List ℕ) (found : Result Front ℕ) → FindsFront Written Ends text found →
    (count : ℕ) → (found ≡ Err count) ↔ IsNoFront Written Ends text count
front-fault Written Ends text (Ok found) f count = (λ e. absurd (let x = e in cc), λ a. absurd (a.never found.before found.tree f.here))
front-fault Written Ends text (Err n) f count = (
  λ e. let same : n ≡ count = cc in subst (IsNoFront Written Ends text) same f,
  λ a. ap Err (reach-once Written text n count f.reach a.reach),
)

pub one-closed : (Written : List ℕ → Tree → Type 0) (text : List ℕ) → ((t : List ℕ) (tree other : Tree) → Written t tree → Written t other → tree ≡ other) →
    (n : ℕ) (tree other : Tree) → IsClosed Written text n tree → IsClosed Written text n other → tree ≡ other
one-closed Written text one n tree other a b = one (take n text) tree other a.within.spells b.within.spells

pub one-variable : (text : List ℕ) → ((t : List ℕ) (tree other : Tree) → Spells Arithmetic t tree → Spells Arithmetic t other → tree ≡ other) →
    (n : ℕ) (tree other : Tree) → IsVariableClosed text n tree → IsVariableClosed text n other → tree ≡ other
one-variable text one n tree other a b = one (take (n + 1) text) tree other a.within.spells b.within.spells

-- what is a variable symbol is the tree itself
variable_tree : (found : Option Tree) (tree : Tree) → variable_only found ≡ Some tree → variable_only found ≡ found
variable_tree None tree e = refl
variable_tree (Some (Variable Value symbol subscripts)) tree e = refl
variable_tree _ tree e = absurd (let x = e in cc)

-- What a reader finds.

module _ {Written : List ℕ → Tree → Type 0} {State : Type 0} {step : State → Placed → Option State} {end : State → Option Tree} {Reaches : List ℕ → State → Type 0} (m : Reader Written step end Reaches) where
  finds-end : (text : List ℕ) (state : State) → Reaches text state → (found : Option Tree) → end state ≡ found → Finds Written text (ended (length text) found)
  finds-end text state r None e = m.partly text state r e
  finds-end text state r (Some tree) e = m.whole text state tree r e

  finds-step : (text : List ℕ) (c : ℕ) (cs : List ℕ) (state : State) → Reaches text state →
      ((next : State) → Reaches (text ++ c ∷ []) next → Finds Written ((text ++ c ∷ []) ++ cs) (read_by step end next (length (text ++ c ∷ [])) cs)) →
      (found : Option State) → step state (record { at = length text; code = c }) ≡ found → Finds Written (text ++ c ∷ cs) (going (length text) (λ next. read_by step end next (length text + 1) cs) found)
  finds-step text c cs state r go None e = m.stops text c cs state r e
  finds-step text c cs state r go (Some next) e =
      subst (λ (xs : List ℕ). Finds Written xs (read_by step end next (length text + 1) cs)) (append_assoc text (c ∷ []) cs)
      (subst (λ (n : ℕ). Finds Written ((text ++ c ∷ []) ++ cs) (read_by step end next n cs)) (length-append text (c ∷ [])) (go next (m.goes text c state next r e)))

  pub finds : (text cs : List ℕ) (state : State) → Reaches text state → Finds Written (text ++ cs) (read_by step end state (length text) cs)
  finds text [] state r = subst (λ (xs : List ℕ). Finds Written xs (ended (length text) (end state))) (sym (append-nil text)) (finds-end text state r (end state) refl)
  finds text (c ∷ cs) state r = finds-step text c cs state r (λ next s. finds (text ++ c ∷ []) cs next s) (step state (record { at = length text; code = c })) refl

  -- a state at the end of an expression has its tree
  accepts-same : (text : List ℕ) (state : State) (tree : Tree) → Reaches text state → IsExpression Written most_parts text tree → (found : Option Tree) → end state ≡ found → found ≡ Some tree
  accepts-same text state tree r i None e = let a = m.partly text state r e in absurd (a.none tree i)
  accepts-same text state tree r i (Some other) e = let w = m.whole text state other r e in ap Some (m.one text other tree w.spells i.spells)

  pub accepts : (text : List ℕ) (state : State) (tree : Tree) → Reaches text state → IsExpression Written most_parts text tree → end state ≡ Some tree
  accepts text state tree r i = accepts-same text state tree r i (end state) refl

  -- Fronts before a closing parenthesis.

  more-before : (all : List ℕ) (n k : ℕ) → k ≡ n + 1 → NoneBefore (IsClosed Written all) n → ((tree : Tree) → IsClosed Written all n tree → ⊥) → NoneBefore (IsClosed Written all) k
  more-before all n k e none here earlier tree less closed = elim (cases_Bool (nat_lt earlier n)) [
    | inl before ↦ none earlier tree (ltb-true earlier n before) closed
    | inr behind ↦ let x = ltb-false earlier n behind in let same : earlier ≡ n = omega arith in here tree (subst (λ (i : ℕ). IsClosed Written all i tree) same closed)
  ]

  past-closed : (all : List ℕ) (n : ℕ) → NoneBefore (IsClosed Written all) n → ((tree : Tree) → IsClosed Written all n tree → ⊥) → IsAt Written most_parts all n → (before : ℕ) (tree : Tree) → IsClosed Written all before tree → ⊥
  past-closed all n none here a before tree closed = elim (cases_Bool (nat_lt n before)) [
    | inl less ↦
        let inside = here-within all before closed.closes in
        a.longest before (ltb-true n before less) (omega arith) (whole-viable Written (take before all) tree closed.within)
    | inr more ↦ more-before all n (n + 1) refl none here before tree (let x = ltb-false n before more in omega arith) closed
  ]

  front-step : (all text : List ℕ) (c : ℕ) (cs : List ℕ) (state : State) → all ≡ text ++ c ∷ cs → Reaches text state → NoneBefore (IsClosed Written all) (length text) → ((tree : Tree) → IsClosed Written all (length text) tree → ⊥) →
      ((next : State) → Reaches (text ++ c ∷ []) next → NoneBefore (IsClosed Written all) (length (text ++ c ∷ [])) → FindsFront Written (IsClosed Written all) all (front_by step end next (length (text ++ c ∷ [])) cs)) →
      (found : Option State) → step state (record { at = length text; code = c }) ≡ found → FindsFront Written (IsClosed Written all) all (going (length text) (λ next. front_by step end next (length text + 1) cs) found)
  front-step all text c cs state e r none here go None s =
      let a : IsAt Written most_parts all (length text) = subst (λ (xs : List ℕ). IsAt Written most_parts xs (length text)) (sym e) (m.stops text c cs state r s) in
      record { never = past-closed all (length text) none here a; reach = at-reach Written all (length text) a }
  front-step all text c cs state e r none here go (Some next) s =
      let long : length (text ++ c ∷ []) ≡ length text + 1 = length-append text (c ∷ []) in
      subst (λ (n : ℕ). FindsFront Written (IsClosed Written all) all (front_by step end next n cs)) long
      (go next (m.goes text c state next r s) (more-before all (length text) (length (text ++ c ∷ [])) long none here))

  not-here : (all text cs : List ℕ) (c : ℕ) (state : State) → all ≡ text ++ c ∷ cs → Reaches text state → end state ≡ None → (tree : Tree) → IsClosed Written all (length text) tree → ⊥
  not-here all text cs c state e r n tree closed =
      let a = m.partly text state r n in
      a.none tree (subst (λ (xs : List ℕ). IsExpression Written most_parts xs tree) (ap (λ xs. take (length text) xs) e ∙ take-all text (c ∷ cs)) closed.within)

  front-close : (all text : List ℕ) (c : ℕ) (cs : List ℕ) (state : State) → all ≡ text ++ c ∷ cs → Reaches text state → NoneBefore (IsClosed Written all) (length text) →
      (others : Result Front ℕ) → (((tree : Tree) → IsClosed Written all (length text) tree → ⊥) → FindsFront Written (IsClosed Written all) all others) →
      (b : Bool) → (c == 41) ≡ b → (found : Option Tree) → end state ≡ found → FindsFront Written (IsClosed Written all) all (closed_by (length text) b found others)
  front-close all text c cs state e r none others go true f (Some tree) w = record {
    here = record {
      closes = seam all text cs c e ∙ is-close c f;
      within = subst (λ (xs : List ℕ). IsExpression Written most_parts xs tree) (sym (ap (λ xs. take (length text) xs) e ∙ take-all text (c ∷ cs))) (m.whole text state tree r w);
    };
    first = none;
  }
  front-close all text c cs state e r none others go true f None w = go (not-here all text cs c state e r w)
  front-close all text c cs state e r none others go false f found w = go (λ tree closed. no-close c f (sym (seam all text cs c e) ∙ closed.closes))

  pub front-finds : (all text cs : List ℕ) (state : State) → all ≡ text ++ cs → Reaches text state → NoneBefore (IsClosed Written all) (length text) → FindsFront Written (IsClosed Written all) all (front_by step end state (length text) cs)
  front-finds all text [] state e r none =
      let same : all ≡ text = e ∙ append-nil text in
      let long : length all ≡ length text = ap length same in
      record {
        never = λ before tree closed. let inside = here-within all before closed.closes in none before tree (omega arith) closed;
        reach = record {
          within = omega arith;
          viable = subst (IsViable Written most_parts) (sym (ap (λ xs. take (length text) xs) e ∙ take-all text [])) (m.viable text state r);
          longest = λ more above within v. absurd (omega arith);
        };
      }
  front-finds all text (c ∷ cs) state e r none =
      front-close all text c cs state e r none (going (length text) (λ next. front_by step end next (length text + 1) cs) (step state (record { at = length text; code = c })))
      (λ here. front-step all text c cs state e r none here (λ next s before. front-finds all (text ++ c ∷ []) cs next (e ∙ sym (append_assoc text (c ∷ []) cs)) s before) (step state (record { at = length text; code = c })) refl)
      (c == 41) refl (end state) refl

-- Variable symbols.

module _ {State : Type 0} {step : State → Placed → Option State} {end : State → Option Tree} {Reaches : List ℕ → State → Type 0} (m : Reader (Spells Arithmetic) step end Reaches) where
  variable-more : (all : List ℕ) (n k : ℕ) → k ≡ n + 1 → NoneBefore (IsVariableClosed all) n → ((tree : Tree) → IsVariableClosed all n tree → ⊥) → NoneBefore (IsVariableClosed all) k
  variable-more all n k e none here earlier tree less closed = elim (cases_Bool (nat_lt earlier n)) [
    | inl before ↦ none earlier tree (ltb-true earlier n before) closed
    | inr behind ↦ let x = ltb-false earlier n behind in let same : earlier ≡ n = omega arith in here tree (subst (λ (i : ℕ). IsVariableClosed all i tree) same closed)
  ]

  variable-past : (all : List ℕ) (n : ℕ) → NoneBefore (IsVariableClosed all) n → IsAt (Spells Arithmetic) most_parts all n → (before : ℕ) (tree : Tree) → IsVariableClosed all before tree → ⊥
  variable-past all n none a before tree closed = elim (cases_Bool (nat_lt before n)) [
    | inl less ↦ none before tree (ltb-true before n less) closed
    | inr more ↦
        let inside = here-within all before closed.closes in
        let x = ltb-false before n more in
        a.longest (before + 1) (omega arith) (omega arith) (whole-viable (Spells Arithmetic) (take (before + 1) all) tree closed.within)
  ]

  take-here : (all text cs : List ℕ) (c : ℕ) → all ≡ text ++ c ∷ cs → take (length text + 1) all ≡ text ++ c ∷ []
  take-here all text cs c e =
      let long : length (text ++ c ∷ []) ≡ length text + 1 = length-append text (c ∷ []) in
      ap (λ n. take n all) (sym long) ∙ ap (λ xs. take (length (text ++ c ∷ [])) xs) (e ∙ sym (append_assoc text (c ∷ []) cs)) ∙ take-all (text ++ c ∷ []) cs

  not-variable : (all text cs : List ℕ) (c : ℕ) (next : State) → all ≡ text ++ c ∷ cs → Reaches (text ++ c ∷ []) next → variable_only (end next) ≡ None → (tree : Tree) → IsVariableClosed all (length text) tree → ⊥
  not-variable all text cs c next e r v tree closed =
      let whole : IsExpression (Spells Arithmetic) most_parts (text ++ c ∷ []) tree = subst (λ (xs : List ℕ). IsExpression (Spells Arithmetic) most_parts xs tree) (take-here all text cs c e) closed.within in
      let found : end next ≡ Some tree = accepts m (text ++ c ∷ []) next tree r whole in
      let some : None ≡ Some tree = sym v ∙ ap variable_only found ∙ closed.value in absurd (let x = some in cc)

  variable-close : (all text cs : List ℕ) (c : ℕ) (next : State) → all ≡ text ++ c ∷ cs → Reaches (text ++ c ∷ []) next → NoneBefore (IsVariableClosed all) (length text) →
      (others : Result Front ℕ) → (((tree : Tree) → IsVariableClosed all (length text) tree → ⊥) → FindsFront (Spells Arithmetic) (IsVariableClosed all) all others) →
      (b : Bool) → (c == 41) ≡ b → (found : Option Tree) → variable_only (end next) ≡ found → FindsFront (Spells Arithmetic) (IsVariableClosed all) all (closed_by (length text) b found others)
  variable-close all text cs c next e r none others go true f (Some tree) v =
      let same : end next ≡ Some tree = sym (variable_tree (end next) tree v) ∙ v in
      record {
        here = record {
          closes = seam all text cs c e ∙ is-close c f;
          within = subst (λ (xs : List ℕ). IsExpression (Spells Arithmetic) most_parts xs tree) (sym (take-here all text cs c e)) (m.whole (text ++ c ∷ []) next tree r same);
          value = ap variable_only (sym same) ∙ v;
        };
        first = none;
      }
  variable-close all text cs c next e r none others go true f None v = go (not-variable all text cs c next e r v)
  variable-close all text cs c next e r none others go false f found v = go (λ tree closed. no-close c f (sym (seam all text cs c e) ∙ closed.closes))

  variable-step : (all text : List ℕ) (c : ℕ) (cs : List ℕ) (state : State) → all ≡ text ++ c ∷ cs → Reaches text state → NoneBefore (IsVariableClosed all) (length text) →
      ((next : State) → Reaches (text ++ c ∷ []) next → NoneBefore (IsVariableClosed all) (length (text ++ c ∷ [])) → FindsFront (Spells Arithmetic) (IsVariableClosed all) all (variable_by step end next (length (text ++ c ∷ [])) cs)) →
      (found : Option State) → step state (record { at = length text; code = c }) ≡ found →
      FindsFront (Spells Arithmetic) (IsVariableClosed all) all (going (length text) (λ next. closed_by (length text) (c == 41) (variable_only (end next)) (variable_by step end next (length text + 1) cs)) found)
  variable-step all text c cs state e r none go None s =
      let a : IsAt (Spells Arithmetic) most_parts all (length text) = subst (λ (xs : List ℕ). IsAt (Spells Arithmetic) most_parts xs (length text)) (sym e) (m.stops text c cs state r s) in
      record { never = variable-past all (length text) none a; reach = at-reach (Spells Arithmetic) all (length text) a }
  variable-step all text c cs state e r none go (Some next) s =
      let long : length (text ++ c ∷ []) ≡ length text + 1 = length-append text (c ∷ []) in
      let on : Reaches (text ++ c ∷ []) next = m.goes text c state next r s in
      variable-close all text cs c next e on none (variable_by step end next (length text + 1) cs)
      (λ here. subst (λ (n : ℕ). FindsFront (Spells Arithmetic) (IsVariableClosed all) all (variable_by step end next n cs)) long (go next on (variable-more all (length text) (length (text ++ c ∷ [])) long none here)))
      (c == 41) refl (variable_only (end next)) refl

  pub variable-finds : (all text cs : List ℕ) (state : State) → all ≡ text ++ cs → Reaches text state → NoneBefore (IsVariableClosed all) (length text) → FindsFront (Spells Arithmetic) (IsVariableClosed all) all (variable_by step end state (length text) cs)
  variable-finds all text [] state e r none =
      let same : all ≡ text = e ∙ append-nil text in
      let long : length all ≡ length text = ap length same in
      record {
        never = λ before tree closed. let inside = here-within all before closed.closes in none before tree (omega arith) closed;
        reach = record {
          within = omega arith;
          viable = subst (IsViable (Spells Arithmetic) most_parts) (sym (ap (λ xs. take (length text) xs) e ∙ take-all text [])) (m.viable text state r);
          longest = λ more above within v. absurd (omega arith);
        };
      }
  variable-finds all text (c ∷ cs) state e r none =
      variable-step all text c cs state e r none (λ next s before. variable-finds all (text ++ c ∷ []) cs next (e ∙ sym (append_assoc text (c ∷ []) cs)) s before) (step state (record { at = length text; code = c })) refl
