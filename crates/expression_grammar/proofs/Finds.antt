-- What the reading of a text finds: its tree, or where no expression goes on.
use Rattle.std.proofs.Common.{◌≡◌, ℕ, suc, zero, ◌+◌, ◌-◌, ◌<◌, ◌≤◌, Bool, true, false, List, [], ◌∷◌, ◌++◌, length, take, refl, sym, ap, ◌∙◌, subst, arith, append_assoc, length-append, zero-add}
use Rattle.std.specs.Prelude.{nat_le, Option, Some, None, option_and_then, option_map, if◌then◌else◌}
use Rattle.std.proofs.lemmas.Bool.Decides.{nat_tests}
use Rattle.expression_grammar.specs.declared.character.Grammar.{Grammar}
use Rattle.expression_grammar.specs.declared.part.Part.{Part}
use Rattle.expression_grammar.specs.Trees.{Tree}
use Rattle.expression_grammar.specs.Spelling.{Placed, placed, Gap, Reads, IsOf, spell, Spells, IsExpression, IsViable, IsAt}
use Rattle.expression_grammar.specs.Parts.{finish}
use Rattle.expression_grammar.specs.Reading.{Layer, State, Want, Have, Within, Folded, fold, step, run, whole, whole_over, accept, weight, kept, advance, under, Takes, Holds, Reaches}
use Rattle.expression_grammar.proofs.Pieces.{append-nil}
use Rattle.expression_grammar.proofs.Folds.{takes-most, fold-stands, fold-spelled}
use Rattle.expression_grammar.proofs.Terms.{AllFinished, finishes}
use Rattle.expression_grammar.proofs.Steps.{AllHold, runs, starts, finished-holds}
use Rattle.expression_grammar.proofs.Completions.{completes, placed-append, run-step}
use Rattle.expression_grammar.proofs.LeadsOf.{accepted}
use Rattle.expression_grammar.proofs.Weights.{run-least, accept-size}

run-append-of : (g : Grammar) (ps qs : List Placed) (next : State) (found : Option State) → ((s : State) → run g s ps ≡ Some next → run g s (ps ++ qs) ≡ run g next qs) →
    option_and_then (λ s. run g s ps) found ≡ Some next → option_and_then (λ s. run g s (ps ++ qs)) found ≡ run g next qs
run-append-of g ps qs next None go e = cc
run-append-of g ps qs next (Some state) go e = go state e

-- a run is a run of its parts
pub run-append : (g : Grammar) (ps qs : List Placed) (state next : State) → run g state ps ≡ Some next → run g state (ps ++ qs) ≡ run g next qs
run-append g [] qs state next e = let same : state ≡ next = cc in ap (λ x. run g x qs) same
run-append g (p ∷ ps) qs state next e = run-append-of g ps qs next (step g state p) (λ s f. run-append g ps qs s next f) e

-- what holds of the state that a text leads to
reached-holds : (g : Grammar) (text : List ℕ) (state : State) → run g (Want []) (placed 0 text) ≡ Some state → Holds g state (placed 0 text)
reached-holds g text state e = subst (λ (s : Option State). AllHold g s (placed 0 text)) e (runs g (placed 0 text) (Want []) [] (starts g))

pub reaches-viable : (g : Grammar) (limit : ℕ) (text : List ℕ) (state : State) → Reaches g limit text state → IsViable (Spells g) limit text
reaches-viable g limit text state r =
    let c = completes g state (length text) (placed 0 text) (reached-holds g text state r.runs) in
    let small = r.small in let exact = c.exact in
    let e : placed 0 text ++ placed (length text) c.rest ≡ placed 0 (text ++ c.rest) =
    ap (λ n. placed 0 text ++ placed n c.rest) (sym (zero-add (length text))) ∙ sym (placed-append 0 text c.rest) in
    record {
      rest = c.rest;
      tree = c.tree;
      expression = record {
        spells = record { fits = c.fits; reads = subst (Reads g (Gap ∷ spell c.tree (Gap ∷ []))) e c.reads };
        small = omega arith;
      };
    }

pub reaches-start : (g : Grammar) (limit : ℕ) → 1 ≤ limit → Reaches g limit [] (Want [])
reaches-start g limit h = record { runs = refl; small = h }

pub placed-one : (text : List ℕ) (c : ℕ) (rest : List ℕ) → placed 0 (text ++ c ∷ rest) ≡ placed 0 text ++ record { at = length text; code = c } ∷ placed (length text + 1) rest
placed-one text c rest = placed-append 0 text (c ∷ rest) ∙ ap (λ n. placed 0 text ++ placed n (c ∷ rest)) (zero-add (length text))

record Advanced (g : Grammar) (limit : ℕ) (found : Option State) (next : State) : Type 0 where
  steps : found ≡ Some next
  small : weight next ≤ limit

kept-some : (limit : ℕ) (state next : State) (b : Bool) → nat_le (weight state) limit ≡ b → (if b then Some state else None) ≡ Some next → (state ≡ next) × (weight next ≤ limit)
kept-some limit state next true t e = let same : state ≡ next = cc in (same, subst (λ x. weight x ≤ limit) same (grind (arith, nat_tests)))
kept-some limit state next false t e = cc

advanced : (g : Grammar) (limit : ℕ) (found : Option State) (next : State) → option_and_then (kept limit) found ≡ Some next → Advanced g limit found next
advanced g limit None next e = cc
advanced g limit (Some state) next e =
    let k = kept-some limit state next (nat_le (weight state) limit) refl e in
    record { steps = ap Some k.0; small = k.1 }

pub reaches-next : (g : Grammar) (limit : ℕ) (text : List ℕ) (c : ℕ) (state next : State) → Reaches g limit text state →
    advance g limit state (record { at = length text; code = c }) ≡ Some next → Reaches g limit (text ++ c ∷ []) next
unfolding advance
reaches-next g limit text c state next r e =
    let p : Placed = record { at = length text; code = c } in
    let a = advanced g limit (step g state p) next e in
    record {
      runs = ap (run g (Want [])) (placed-one text c []) ∙ run-append g (placed 0 text) (p ∷ []) (Want []) state r.runs ∙ run-step g state next p [] a.steps;
      small = a.small;
    }

-- what is not kept is too large
kept-none : (limit : ℕ) (state : State) (b : Bool) → nat_le (weight state) limit ≡ b → (if b then Some state else None) ≡ None → limit < weight state
kept-none limit state true t e = cc
kept-none limit state false t e = grind (arith, nat_tests)

stuck : (g : Grammar) (limit : ℕ) (found : Option State) (ps : List Placed) (last : State) → option_and_then (kept limit) found ≡ None →
    option_and_then (λ next. run g next ps) found ≡ Some last → limit < weight last
stuck g limit None ps last a e = cc
stuck g limit (Some state) ps last a e = let over = kept-none limit state (nat_le (weight state) limit) refl a in let least = run-least g ps state last e in omega arith

-- where no state follows, no expression goes on
pub no-expression : (g : Grammar) (limit : ℕ) (text : List ℕ) (c : ℕ) (state : State) → Reaches g limit text state →
    advance g limit state (record { at = length text; code = c }) ≡ None → (rest : List ℕ) (tree : Tree) → IsExpression (Spells g) limit (text ++ c ∷ rest) tree → ⊥
unfolding advance
no-expression g limit text c state r a rest tree e =
    let p : Placed = record { at = length text; code = c } in
    let all = accepted g tree (placed 0 (text ++ c ∷ rest)) e.spells.fits e.spells.reads in
    let small = e.small in
    let size = accept-size g all.last tree all.accepts in
    let runs : run g state (p ∷ placed (length text + 1) rest) ≡ Some all.last =
    sym (run-append g (placed 0 text) (p ∷ placed (length text + 1) rest) (Want []) state r.runs) ∙ ap (run g (Want [])) (sym (placed-one text c rest)) ∙ all.runs in
    let over = stuck g limit (step g state p) (placed (length text + 1) rest) all.last a runs in
    absurd (omega arith)

pub take-all : (text rest : List ℕ) → take (length text) (text ++ rest) ≡ text
take-all [] rest = refl
take-all (c ∷ text) rest = ap (λ xs. c ∷ xs) (take-all text rest)

-- more than the text takes the character behind it
pub take-past : (text : List ℕ) (c : ℕ) (rest : List ℕ) (more : ℕ) → length text < more → take more (text ++ c ∷ rest) ≡ text ++ c ∷ take (more - length text - 1) rest
take-past text c rest zero h = absurd (omega arith)
take-past [] c rest (suc more) h = ap (λ n. c ∷ take n rest) (omega arith)
take-past (d ∷ text) c rest (suc more) h = ap (λ xs. d ∷ xs) (take-past text c rest more (omega arith) ∙ ap (λ n. text ++ c ∷ take n rest) (omega arith))

pub stops : (g : Grammar) (limit : ℕ) (text : List ℕ) (c : ℕ) (rest : List ℕ) (state : State) → Reaches g limit text state →
    advance g limit state (record { at = length text; code = c }) ≡ None → IsAt (Spells g) limit (text ++ c ∷ rest) (length text)
stops g limit text c rest state r a =
    record {
      within = omega (arith, length-append text (c ∷ rest));
      viable = subst (IsViable (Spells g) limit) (sym (take-all text (c ∷ rest))) (reaches-viable g limit text state r);
      longest = λ more h w v.
          let qs : List ℕ = take (more - length text - 1) rest in
          let whole : take more (text ++ c ∷ rest) ++ v.rest ≡ text ++ c ∷ (qs ++ v.rest) = ap (λ xs. xs ++ v.rest) (take-past text c rest more h) ∙ append_assoc text (c ∷ qs) v.rest in
          no-expression g limit text c state r a (qs ++ v.rest) v.tree (subst (λ xs. IsExpression (Spells g) limit xs v.tree) whole v.expression);
      none = λ tree e. no-expression g limit text c state r a rest tree e;
    }

accepts-of : (g : Grammar) (limit : ℕ) (text : List ℕ) (state : State) (tree : Tree) → Reaches g limit text state → IsExpression (Spells g) limit text tree → accept g state ≡ Some tree
accepts-of g limit text state tree r e =
    let all = accepted g tree (placed 0 text) e.spells.fits e.spells.reads in
    let same : state ≡ all.last = let a = r.runs in let b = all.runs in cc in
    ap (accept g) same ∙ all.accepts

-- at the end no tree is there
pub ends-open : (g : Grammar) (limit : ℕ) (text : List ℕ) (state : State) → Reaches g limit text state → accept g state ≡ None → IsAt (Spells g) limit text (length text)
ends-open g limit text state r n =
    record {
      within = omega arith;
      viable = subst (IsViable (Spells g) limit) (sym (take-all text []) ∙ ap (take (length text)) (append-nil text)) (reaches-viable g limit text state r);
      longest = λ more h w v. absurd (omega arith);
      none = λ tree e. let a = accepts-of g limit text state tree r e in cc;
    }

pub whole-some : (found : Tree) (layers : List Layer) (tree : Tree) → whole_over found layers ≡ Some tree → (layers ≡ []) × (found ≡ tree)
whole-some found [] tree e = (refl, cc)
whole-some found (layer ∷ layers) tree e = cc

-- a tree over no layer is the tree of the text
whole-spells : (g : Grammar) (cs : List Placed) (found : Tree) (layers : List Layer) (tree : Tree) → Holds g (Have found layers) cs → whole (fold 0 found layers) ≡ Some tree →
    IsOf g tree × Reads g (Gap ∷ spell tree (Gap ∷ [])) cs
whole-spells g cs found layers tree h e =
    let f : Folded = fold 0 found layers in
    let i = fold-stands g 0 found layers (omega arith) h.stands.0 (subst (λ n. Takes layers n) (sym h.stands.1) (takes-most layers)) h.stands.2 in
    let s = whole-some f.tree f.layers tree e in
    let reads : Reads g (under f.layers (spell f.tree (Gap ∷ []))) cs = subst (λ ks. Reads g ks cs) (sym (fold-spelled 0 found layers (Gap ∷ []))) h.reads in (
      subst (IsOf g) s.1 i.fits,
      subst (λ (x : Tree). Reads g (Gap ∷ spell x (Gap ∷ [])) cs) s.1 (subst (λ (xs : List Layer). Reads g (under xs (spell f.tree (Gap ∷ []))) cs) s.0 reads),
    )

accept-part : (g : Grammar) (cs : List Placed) (part : Part) (layers : List Layer) (tree : Tree) → Holds g (Within part layers) cs → (found : Option Tree) → AllFinished g part found →
    option_and_then whole (option_map (λ t. fold 0 t layers) found) ≡ Some tree → IsOf g tree × Reads g (Gap ∷ spell tree (Gap ∷ [])) cs
accept-part g cs part layers tree h None f e = cc
accept-part g cs part layers tree h (Some one) f e = whole-spells g cs one layers tree (finished-holds g part layers cs one f h) e

pub accept-spells : (g : Grammar) (cs : List Placed) (state : State) (tree : Tree) → Holds g state cs → accept g state ≡ Some tree → IsOf g tree × Reads g (Gap ∷ spell tree (Gap ∷ [])) cs
unfolding accept
accept-spells g cs (Want layers) tree h e = cc
accept-spells g cs (Have found layers) tree h e = whole-spells g cs found layers tree h e
accept-spells g cs (Within part layers) tree h e = accept-part g cs part layers tree h (finish g part) (finishes g part h.stands.0) e

-- at the end a tree is there
pub ends-whole : (g : Grammar) (limit : ℕ) (text : List ℕ) (state : State) (tree : Tree) → Reaches g limit text state → accept g state ≡ Some tree → IsExpression (Spells g) limit text tree
ends-whole g limit text state tree r a =
    let s = accept-spells g (placed 0 text) state tree (reached-holds g text state r.runs) a in
    let size = accept-size g state tree a in let small = r.small in
    record { spells = record { fits = s.0; reads = s.1 }; small = omega arith }

-- a text has one tree
pub one-tree : (g : Grammar) (text : List ℕ) (tree other : Tree) → Spells g text tree → Spells g text other → tree ≡ other
one-tree g text tree other s t =
    let a = accepted g tree (placed 0 text) s.fits s.reads in
    let b = accepted g other (placed 0 text) t.fits t.reads in
    let same : a.last ≡ b.last = let x = a.runs in let y = b.runs in cc in
    let e : accept g a.last ≡ Some other = ap (accept g) same ∙ b.accepts in
    let f = a.accepts in cc
