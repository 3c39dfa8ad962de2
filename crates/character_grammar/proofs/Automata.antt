-- What an automaton finds that reads a text character by character: its tree, or where no text of the grammar goes on.
use Rattle.std.proofs.Common.{◌≡◌, ℕ, suc, ◌+◌, ◌-◌, ◌<◌, ◌≤◌, Bool, true, false, List, [], ◌∷◌, ◌++◌, length, take, get_or, refl, sym, ap, ◌∙◌, subst, arith, append_assoc, length-append, zero-add}
use Rattle.std.specs.Prelude.{nat_le, Option, Some, None, option_and_then, if◌then◌else◌}
use Rattle.std.proofs.lemmas.Bool.Decides.{nat_tests}
use Rattle.expression_grammar.specs.Trees.{Tree, size}
use Rattle.expression_grammar.specs.Spelling.{Placed, placed, IsExpression, IsViable, IsAt, most_parts}
use Rattle.expression_grammar.proofs.Pieces.{append-nil}
use Rattle.expression_grammar.proofs.Completions.{placed-append}
use Rattle.expression_grammar.proofs.Finds.{placed-one, take-all, take-past}
use Rattle.expression_grammar.proofs.ReadLaws.{Reader}
use Rattle.expression_grammar.proofs.ReadingLaws.{cut-at, take-next, take-size, take-whole}

-- A state with one character more, unless it weighs more than a limit. The weight never falls, and the tree that a state
-- accepts is as large as it; what is written is accepted, and what is read can be completed with nothing heavier.
pub record Automaton (Written : List ℕ → Tree → Type 0) (State : Type 0) : Type 0 where
  pub start : State
  pub step : State → Placed → Option State
  pub run : State → List Placed → Option State
  pub accept : State → Option Tree
  pub weight : State → ℕ
  pub advance : ℕ → State → Placed → Option State
  pub ends : (state : State) → run state [] ≡ Some state
  pub goes : (state : State) (p : Placed) (ps : List Placed) → run state (p ∷ ps) ≡ option_and_then (λ next. run next ps) (step state p)
  pub advances : (limit : ℕ) (state : State) (p : Placed) → advance limit state p ≡ option_and_then (λ next. if nat_le (weight next) limit then Some next else None) (step state p)
  pub least : (ps : List Placed) (state next : State) → run state ps ≡ Some next → weight state ≤ weight next
  pub exact : (state : State) (tree : Tree) → accept state ≡ Some tree → size tree ≡ weight state
  pub accepted : (text : List ℕ) (tree : Tree) → Written text tree → (last : State) × (run start (placed 0 text) ≡ Some last) × (accept last ≡ Some tree)
  pub spells : (text : List ℕ) (state : State) (tree : Tree) → run start (placed 0 text) ≡ Some state → accept state ≡ Some tree → Written text tree
  pub completes : (text : List ℕ) (state : State) → run start (placed 0 text) ≡ Some state → (rest : List ℕ) × (tree : Tree) × Written (text ++ rest) tree × (size tree ≡ weight state)

-- the places of a text go on in what follows it
pub placed-more : (text rest : List ℕ) → placed 0 text ++ placed (length text) rest ≡ placed 0 (text ++ rest)
placed-more text rest = ap (λ n. placed 0 text ++ placed n rest) (sym (zero-add (length text))) ∙ sym (placed-append 0 text rest)

module _ {Written : List ℕ → Tree → Type 0} {State : Type 0} (m : Automaton Written State) where
  -- a text leads to a state, within a limit
  pub record Reached (limit : ℕ) (text : List ℕ) (state : State) : Type 0 where
    pub runs : m.run m.start (placed 0 text) ≡ Some state
    pub small : m.weight state ≤ limit

  append-of : (ps qs : List Placed) (next : State) (found : Option State) →
      ((s : State) → m.run s ps ≡ Some next → m.run s (ps ++ qs) ≡ m.run next qs) → option_and_then (λ s. m.run s ps) found ≡ Some next → option_and_then (λ s. m.run s (ps ++ qs)) found ≡ m.run next qs
  append-of ps qs next None go e = cc
  append-of ps qs next (Some state) go e = go state e

  -- a run is a run of its parts
  run-append : (ps qs : List Placed) (state next : State) → m.run state ps ≡ Some next → m.run state (ps ++ qs) ≡ m.run next qs
  run-append [] qs state next e = let ends = m.ends state in let same : state ≡ next = cc in ap (λ x. m.run x qs) same
  run-append (p ∷ ps) qs state next e =
      m.goes state p (ps ++ qs) ∙ append-of ps qs next (m.step state p) (λ s f. run-append ps qs s next f) (sym (m.goes state p ps) ∙ e)

  pub viable : (limit : ℕ) (text : List ℕ) (state : State) → Reached limit text state → IsViable Written limit text
  viable limit text state r =
      let c = m.completes text state r.runs in
      let small = r.small in let exact = c.3 in
      record { rest = c.0; tree = c.1; expression = record { spells = c.2; small = omega arith } }

  record Advanced (limit : ℕ) (found : Option State) (next : State) : Type 0 where
    steps : found ≡ Some next
    small : m.weight next ≤ limit

  kept-some : (limit : ℕ) (state next : State) (b : Bool) → nat_le (m.weight state) limit ≡ b →
      (if b then Some state else None) ≡ Some next → (state ≡ next) × (m.weight next ≤ limit)
  kept-some limit state next true t e = let same : state ≡ next = cc in (same, subst (λ x. m.weight x ≤ limit) same (grind (arith, nat_tests)))
  kept-some limit state next false t e = cc

  advanced : (limit : ℕ) (found : Option State) (next : State) →
      option_and_then (λ s. if nat_le (m.weight s) limit then Some s else None) found ≡ Some next → Advanced limit found next
  advanced limit None next e = cc
  advanced limit (Some state) next e =
      let k = kept-some limit state next (nat_le (m.weight state) limit) refl e in
      record { steps = ap Some k.0; small = k.1 }

  pub reached-next : (limit : ℕ) (text : List ℕ) (c : ℕ) (state next : State) → Reached limit text state →
      m.advance limit state (record { at = length text; code = c }) ≡ Some next → Reached limit (text ++ c ∷ []) next
  reached-next limit text c state next r e =
      let p : Placed = record { at = length text; code = c } in
      let a = advanced limit (m.step state p) next (sym (m.advances limit state p) ∙ e) in
      record {
        runs = ap (m.run m.start) (placed-one text c []) ∙ run-append (placed 0 text) (p ∷ []) m.start state r.runs ∙ m.goes state p [] ∙ ap (option_and_then (λ s. m.run s [])) a.steps ∙ m.ends next;
        small = a.small;
      }

  -- what is not kept is too large
  kept-none : (limit : ℕ) (state : State) (b : Bool) → nat_le (m.weight state) limit ≡ b →
      (if b then Some state else None) ≡ None → limit < m.weight state
  kept-none limit state true t e = cc
  kept-none limit state false t e = grind (arith, nat_tests)

  stuck : (limit : ℕ) (found : Option State) (ps : List Placed) (last : State) →
      option_and_then (λ s. if nat_le (m.weight s) limit then Some s else None) found ≡ None → option_and_then (λ s. m.run s ps) found ≡ Some last → limit < m.weight last
  stuck limit None ps last a e = cc
  stuck limit (Some state) ps last a e =
      let over = kept-none limit state (nat_le (m.weight state) limit) refl a in
      let least = m.least ps state last e in omega arith

  -- where no state follows, no expression goes on
  no-expression : (limit : ℕ) (text : List ℕ) (c : ℕ) (state : State) → Reached limit text state →
      m.advance limit state (record { at = length text; code = c }) ≡ None → (rest : List ℕ) (tree : Tree) → IsExpression Written limit (text ++ c ∷ rest) tree → ⊥
  no-expression limit text c state r a rest tree e =
      let p : Placed = record { at = length text; code = c } in
      let ps : List Placed = placed (length text + 1) rest in
      let all = m.accepted (text ++ c ∷ rest) tree e.spells in
      let small = e.small in
      let exact = m.exact all.0 tree all.2 in
      let runs : option_and_then (λ s. m.run s ps) (m.step state p) ≡ Some all.0 =
      sym (m.goes state p ps) ∙ sym (run-append (placed 0 text) (p ∷ ps) m.start state r.runs) ∙ ap (m.run m.start) (sym (placed-one text c rest)) ∙ all.1 in
      let over = stuck limit (m.step state p) ps all.0 (sym (m.advances limit state p) ∙ a) runs in
      absurd (omega arith)

  pub stops : (limit : ℕ) (text : List ℕ) (c : ℕ) (rest : List ℕ) (state : State) → Reached limit text state →
      m.advance limit state (record { at = length text; code = c }) ≡ None → IsAt Written limit (text ++ c ∷ rest) (length text)
  stops limit text c rest state r a =
      record {
        within = omega (arith, length-append text (c ∷ rest));
        viable = subst (IsViable Written limit) (sym (take-all text (c ∷ rest))) (viable limit text state r);
        longest = λ more h w v.
            let qs : List ℕ = take (more - length text - 1) rest in
            let whole : take more (text ++ c ∷ rest) ++ v.rest ≡ text ++ c ∷ (qs ++ v.rest) = ap (λ xs. xs ++ v.rest) (take-past text c rest more h) ∙ append_assoc text (c ∷ qs) v.rest in
            no-expression limit text c state r a (qs ++ v.rest) v.tree (subst (λ xs. IsExpression Written limit xs v.tree) whole v.expression);
        none = λ tree e. no-expression limit text c state r a rest tree e;
      }

  accepts-of : (limit : ℕ) (text : List ℕ) (state : State) (tree : Tree) → Reached limit text state →
      IsExpression Written limit text tree → m.accept state ≡ Some tree
  accepts-of limit text state tree r e =
      let all = m.accepted text tree e.spells in
      let same : state ≡ all.0 = let a = r.runs in let b = all.1 in cc in
      ap m.accept same ∙ all.2

  -- at the end no tree is there
  pub ends-open : (limit : ℕ) (text : List ℕ) (state : State) → Reached limit text state → m.accept state ≡ None → IsAt Written limit text (length text)
  ends-open limit text state r n =
      record {
        within = omega arith;
        viable = subst (IsViable Written limit) (sym (take-all text []) ∙ ap (take (length text)) (append-nil text)) (viable limit text state r);
        longest = λ more h w v. absurd (omega arith);
        none = λ tree e. let a = accepts-of limit text state tree r e in cc;
      }

  -- at the end a tree is there
  pub ends-whole : (limit : ℕ) (text : List ℕ) (state : State) (tree : Tree) → Reached limit text state →
      m.accept state ≡ Some tree → IsExpression Written limit text tree
  ends-whole limit text state tree r a =
      let exact = m.exact state tree a in let small = r.small in
      record { spells = m.spells text state tree r.runs a; small = omega arith }

  -- a text has one tree
  pub one-tree : (text : List ℕ) (tree other : Tree) → Written text tree → Written text other → tree ≡ other
  one-tree text tree other s t =
      let a = m.accepted text tree s in
      let b = m.accepted text other t in
      let same : a.0 ≡ b.0 = let x = a.1 in let y = b.1 in cc in
      let e : m.accept a.0 ≡ Some other = ap m.accept same ∙ b.2 in
      let f = a.2 in cc

  -- it comes from text to text
  pub reader : Reader Written (m.advance most_parts) m.accept (Reached most_parts)
  reader = record {
    goes = λ text c state next r e. reached-next most_parts text c state next r e;
    stops = λ text c rest state r e. stops most_parts text c rest state r e;
    whole = λ text state tree r e. ends-whole most_parts text state tree r e;
    partly = λ text state r e. ends-open most_parts text state r e;
    viable = λ text state r. viable most_parts text state r;
    one = λ text tree other s t. one-tree text tree other s t;
  }

  -- In the words of a reader.

  -- no state follows here
  pub stop_here : (all : List ℕ) (n c at count : ℕ) (state : State) → n < length all → c ≡ get_or all n c → at ≡ n →
      Reached most_parts (take n all) state → count ≡ at → m.advance most_parts state (record { at = at; code = c }) ≡ None → IsAt Written most_parts all count
  stop_here all n c at count state h e a r k s =
      let cut = cut-at all n c h e in
      let long : length (take n all) ≡ n = take-size all n (omega arith) in
      let none : m.advance most_parts state (record { at = length (take n all); code = c }) ≡ None = ap (λ x. m.advance most_parts state (record { at = x; code = c })) (long ∙ sym a) ∙ s in
      subst (λ (xs : List ℕ). IsAt Written most_parts xs count) (sym cut.both)
      (subst (λ (x : ℕ). IsAt Written most_parts (take n all ++ c ∷ cut.rest) x) (long ∙ sym a ∙ sym k) (stops most_parts (take n all) c cut.rest state r none))

  -- a state follows here
  pub go_on_here : (all : List ℕ) (n c at after : ℕ) (state next : State) → n < length all → c ≡ get_or all n c → at ≡ n → after ≡ n + 1 →
      Reached most_parts (take n all) state → m.advance most_parts state (record { at = at; code = c }) ≡ Some next → Reached most_parts (take after all) next
  go_on_here all n c at after state next h e a f r s =
      let long : length (take n all) ≡ n = take-size all n (omega arith) in
      let some : m.advance most_parts state (record { at = length (take n all); code = c }) ≡ Some next = ap (λ x. m.advance most_parts state (record { at = x; code = c })) (long ∙ sym a) ∙ s in
      let count : suc n ≡ after = omega arith in
      subst (λ (xs : List ℕ). Reached most_parts xs next) (sym (take-next all n c h e) ∙ ap (λ x. take x all) count) (reached-next most_parts (take n all) c state next r some)

  pub end_some : (all : List ℕ) (n : ℕ) (state : State) (tree : Tree) → n ≡ length all → Reached most_parts (take n all) state →
      Some tree ≡ m.accept state → IsExpression Written most_parts all tree
  end_some all n state tree e r a =
      ends-whole most_parts all state tree (subst (λ (xs : List ℕ). Reached most_parts xs state) (ap (λ x. take x all) e ∙ take-whole all) r) (sym a)

  pub end_none : (all : List ℕ) (n at : ℕ) (state : State) → n ≡ length all → at ≡ n → Reached most_parts (take n all) state →
      None ≡ m.accept state → IsAt Written most_parts all at
  end_none all n at state e f r a =
      subst (λ (x : ℕ). IsAt Written most_parts all x) (sym (f ∙ e))
      (ends-open most_parts all state (subst (λ (xs : List ℕ). Reached most_parts xs state) (ap (λ x. take x all) e ∙ take-whole all) r) (sym a))
