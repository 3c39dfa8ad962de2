-- Each state has a rest that makes it an expression of exactly its weight.
use Rattle.std.proofs.Common.{◌≡◌, ℕ, suc, zero, ◌+◌, ◌*◌, ◌<◌, Bool, true, false, List, [], ◌∷◌, ◌++◌, ◌⊎◌, inl, inr, length, refl, sym, ap, ◌∙◌, subst, arith, append_assoc, add-zero}
use Rattle.std.specs.Prelude.{nat_lt, Option, Some, None, option_and_then, if◌then◌else◌}
use Rattle.std.proofs.lemmas.Bool.Decides.{nat_tests}
use Rattle.expression_grammar.specs.declared.character.Grammar.{Grammar}
use Rattle.expression_grammar.specs.declared.character.Kind.TheVariants as kind
use Rattle.expression_grammar.specs.declared.tree.Form.TheVariants.{Decimal, Hexadecimal, Binary, Character}
use Rattle.expression_grammar.specs.declared.tree.Reference.TheVariants.{Value, Of}
use Rattle.expression_grammar.specs.declared.part.Part.{Part}
use Rattle.expression_grammar.specs.declared.part.Part.TheVariants.{Figures, Body, BodyQuote, BodyAmpersand, Asked, Sigil, Word, Property, Named}
use Rattle.expression_grammar.specs.declared.part.Move.TheVariants.{To, Done, Over}
use Rattle.expression_grammar.specs.Characters.{kind_of}
use Rattle.hl_base.specs.Order.{ebcdic, code_page_037}
use Rattle.expression_grammar.specs.Trees.{Tree, Number, Ordinary, Variable, Signed, Pair, Paren, NoTrees, More, size}
use Rattle.expression_grammar.specs.Spelling.{Placed, placed, Gap, One, Reads, IsOf, spell, rank, is_ordinary, may_vary, asks_of_symbol}
use Rattle.expression_grammar.specs.Parts.{symbol_at, after, has_room, finish, opening, IsPart, IsLetterOf, whole, letter, opened}
use Rattle.expression_grammar.specs.Reading.{Layer, SignLayer, PairLayer, OpenLayer, SubscriptLayer, State, Want, Have, Within, step, run, moved, weight, layers_size, under, Takes, AreLayers, Holds}
use Rattle.expression_grammar.proofs.Pieces.{append-nil, reads-kind_gap}
use Rattle.expression_grammar.proofs.Folds.{takes-most}
use Rattle.expression_grammar.proofs.Terms.{Finished, finishes, AllFinished, AllOpen, opens, is_word}
use Rattle.expression_grammar.proofs.Steps.{have-join, finished-holds, runs, AllHold}

-- a rest, and the tree of the whole
pub record Completes (g : Grammar) (at : ℕ) (cs : List Placed) (wanted : ℕ) : Type 0 where
  pub rest : List ℕ
  pub tree : Tree
  pub fits : IsOf g tree
  pub reads : Reads g (Gap ∷ spell tree (Gap ∷ [])) (cs ++ placed at rest)
  pub exact : size tree ≡ wanted

pub placed-more : (at c : ℕ) (rest : List ℕ) (cs : List Placed) → (cs ++ record { at = at; code = c } ∷ []) ++ placed (at + 1) rest ≡ cs ++ placed at (c ∷ rest)
placed-more at c rest cs = append_assoc cs (record { at = at; code = c } ∷ []) (placed (at + 1) rest)

kind-close : kind_of 41 ≡ kind.Close
unfolding kind_of
kind-close = refl

-- one closing parenthesis more in front
more-close : (g : Grammar) (at : ℕ) (cs : List Placed) (wanted same : ℕ) → wanted ≡ same → Completes g (at + 1) (cs ++ record { at = at; code = 41 } ∷ []) wanted → Completes g at cs same
more-close g at cs wanted same e c =
    record {
      rest = 41 ∷ c.rest;
      tree = c.tree;
      fits = c.fits;
      reads = subst (Reads g (Gap ∷ spell c.tree (Gap ∷ []))) (placed-more at 41 c.rest cs) c.reads;
      exact = c.exact ∙ e;
    }

same-size : (g : Grammar) (at : ℕ) (cs : List Placed) (wanted same : ℕ) → wanted ≡ same → Completes g at cs wanted → Completes g at cs same
same-size g at cs wanted same e c = record { rest = c.rest; tree = c.tree; fits = c.fits; reads = c.reads; exact = c.exact ∙ e }

pub tree-completes : (g : Grammar) (layers : List Layer) (at : ℕ) (tree : Tree) (cs : List Placed) → IsOf g tree → Takes layers (rank tree) → AreLayers g layers →
    Reads g (under layers (spell tree (Gap ∷ []))) cs → Completes g at cs (layers_size layers + size tree)
tree-completes g [] at tree cs i t a r =
    record { rest = []; tree = tree; fits = i; reads = subst (Reads g (Gap ∷ spell tree (Gap ∷ []))) (sym (append-nil cs)) r; exact = omega arith }
tree-completes g (SignLayer sign ∷ layers) at tree cs i t a r =
    same-size g at cs (layers_size layers + (1 + size tree)) (1 + layers_size layers + size tree) (omega arith)
    (tree-completes g layers at (Signed sign tree) cs (i, t) (takes-most layers) a r)
tree-completes g (PairLayer operator left ∷ layers) at tree cs i t a r =
    same-size g at cs (layers_size layers + (size left + 1 + size tree)) (size left + 1 + layers_size layers + size tree) (omega arith)
    (tree-completes g layers at (Pair operator left tree) cs (a.0, i, a.1, t) a.2 a.3 r)
tree-completes g (OpenLayer ∷ layers) at tree cs i t a r =
    let p : Placed = record { at = at; code = 41 } in
    more-close g at cs (layers_size layers + (1 + size tree)) (1 + layers_size layers + size tree) (omega arith)
    (tree-completes g layers (at + 1) (Paren tree) (cs ++ p ∷ []) i (takes-most layers) a
    (have-join g (OpenLayer ∷ layers) tree (One kind.Close ∷ Gap ∷ []) cs (p ∷ []) r (reads-kind_gap g kind.Close p kind-close)))
tree-completes g (SubscriptLayer asked symbol others ∷ layers) at tree cs i t a r =
    let p : Placed = record { at = at; code = 41 } in
    more-close g at cs (layers_size layers + size (Variable asked symbol (More others tree))) (layers_size (SubscriptLayer asked symbol others ∷ layers) + size tree) (omega arith)
    (tree-completes g layers (at + 1) (Variable asked symbol (More others tree)) (cs ++ p ∷ []) (a.0, (a.1, i)) (takes-most layers) a.2
    (have-join g (SubscriptLayer asked symbol others ∷ layers) tree (One kind.Close ∷ Gap ∷ []) cs (p ∷ []) r (reads-kind_gap g kind.Close p kind-close)))

have-completes : (g : Grammar) (layers : List Layer) (at : ℕ) (tree : Tree) (cs : List Placed) → Holds g (Have tree layers) cs → Completes g at cs (layers_size layers + size tree)
have-completes g layers at tree cs h =
    tree-completes g layers at tree cs h.stands.0 (subst (Takes layers) (sym h.stands.1) (takes-most layers)) h.stands.2 h.reads

-- Terms.

-- some text behind a term ends it
pub data Ends (g : Grammar) (layers : List Layer) (last : State) : Type 0 where
  ends_tree : (found : Tree) → last ≡ Have found layers → size found ≡ 1 → Ends g layers last
  ends_part : (part : Part) (found : Tree) → last ≡ Within part layers → finish g part ≡ Some found → Ends g layers last

pub record Ending (g : Grammar) (layers : List Layer) (at : ℕ) (state : State) : Type 0 where
  pub rest : List ℕ
  pub last : State
  pub runs : run g state (placed at rest) ≡ Some last
  pub ends : Ends g layers last

ended-now : (g : Grammar) (layers : List Layer) (at : ℕ) (part' : Part) (found : Tree) → finish g part' ≡ Some found → Ending g layers at (Within part' layers)
ended-now g layers at part' found e = record { rest = []; last = Within part' layers; runs = refl; ends = ends_part part' found refl e }

pub run-step : (g : Grammar) (state next : State) (p : Placed) (ps : List Placed) → step g state p ≡ Some next → run g state (p ∷ ps) ≡ run g next ps
run-step g state next p ps e = ap (option_and_then (λ s. run g s ps)) e

-- a character, and then what ends the rest
ended-after : (g : Grammar) (layers : List Layer) (at c : ℕ) (state next : State) → step g state (record { at = at; code = c }) ≡ Some next →
    Ending g layers (at + 1) next → Ending g layers at state
ended-after g layers at c state next e end =
    record { rest = c ∷ end.rest; last = end.last; runs = run-step g state next (record { at = at; code = c }) (placed (at + 1) end.rest) e ∙ end.runs; ends = end.ends }

pub step-to : (g : Grammar) (layers : List Layer) (part' next : Part) (p : Placed) → after g part' p ≡ To next → step g (Within part' layers) p ≡ Some (Within next layers)
unfolding step
step-to g layers part' next p e = ap (λ m. moved g m (kind_of p.code) layers) e

pub step-done : (g : Grammar) (layers : List Layer) (part' : Part) (form : _) (number : ℕ) (p : Placed) → after g part' p ≡ Done form number → step g (Within part' layers) p ≡ Some (Have (Number form number) layers)
unfolding step
step-done g layers part' form number p e = ap (λ m. moved g m (kind_of p.code) layers) e

-- The apostrophe, the ampersand, the digit 0 and the letter A, behind each term.

quote : ℕ → Placed
quote at = record { at = at; code = 39 }

pub if-true : {A : Type 0} (b : Bool) (x y : A) → b ≡ true → (if b then x else y) ≡ x
if-true true x y e = refl
if-true false x y e = cc

some-count : (n : ℕ) → 0 < n → nat_lt 0 n ≡ true
some-count n h = grind (arith, nat_tests)

after-hexadecimal : (g : Grammar) (at n v : ℕ) → 0 < n → after g (Figures Hexadecimal n v) (record { at = at; code = 39 }) ≡ Done Hexadecimal v
unfolding after kind_of
after-hexadecimal g at n v h = if-true (nat_lt 0 n) (Done Hexadecimal v) (Over (Figures Hexadecimal n v)) (some-count n h)

after-binary : (g : Grammar) (at n v : ℕ) → 0 < n → after g (Figures Binary n v) (record { at = at; code = 39 }) ≡ Done Binary v
unfolding after kind_of
after-binary g at n v h = if-true (nat_lt 0 n) (Done Binary v) (Over (Figures Binary n v)) (some-count n h)

after-body_quote : (g : Grammar) (at n v : ℕ) → after g (Body n v) (record { at = at; code = 39 }) ≡ To (BodyQuote n v)
unfolding after kind_of
after-body_quote g at n v = refl

after-body_zero : (g : Grammar) (at : ℕ) → after g (Body 0 0) (record { at = at; code = 48 }) ≡ To (Body 1 (ebcdic 48))
unfolding after kind_of ebcdic code_page_037
after-body_zero g at = refl

after-quote_zero : (g : Grammar) (at : ℕ) → after g (BodyQuote 0 0) (record { at = at; code = 39 }) ≡ To (Body 1 (ebcdic 39))
unfolding after kind_of ebcdic code_page_037
after-quote_zero g at = refl

after-second : (g : Grammar) (at n v : ℕ) → has_room Character n v (ebcdic 38) ≡ true → after g (BodyAmpersand n v) (record { at = at; code = 38 }) ≡ To (Body (n + 1) (v * 256 + ebcdic 38))
unfolding after kind_of
after-second g at n v h = if-true (has_room Character n v (ebcdic 38)) (To (Body (n + 1) (v * 256 + ebcdic 38))) (Over (BodyAmpersand n v)) h

after-hexadecimal_zero : (g : Grammar) (at : ℕ) → after g (Figures Hexadecimal 0 0) (record { at = at; code = 48 }) ≡ To (Figures Hexadecimal 1 0)
unfolding after kind_of
after-hexadecimal_zero g at = refl

after-binary_zero : (g : Grammar) (at : ℕ) → after g (Figures Binary 0 0) (record { at = at; code = 48 }) ≡ To (Figures Binary 1 0)
unfolding after kind_of
after-binary_zero g at = refl

after-sigil_letter : (g : Grammar) (asked : _) (place at : ℕ) → after g (Sigil asked place) (record { at = at; code = 65 }) ≡ To (Named asked place (65 ∷ []))
unfolding after kind_of
after-sigil_letter g asked place at = refl

after-asked_sigil : (g : Grammar) (asked : _) (at : ℕ) → may_vary g (Of asked) ≡ true → after g (Asked asked) (record { at = at; code = 38 }) ≡ To (Sigil (Of asked) at)
unfolding after kind_of
after-asked_sigil g asked at e = if-true (may_vary g (Of asked)) (To (Sigil (Of asked) at)) (Over (Asked asked)) e

after-asked_letter : (g : Grammar) (asked : _) (at : ℕ) → asks_of_symbol g asked ≡ true → after g (Asked asked) (record { at = at; code = 65 }) ≡ To (Property asked at (65 ∷ []))
unfolding after kind_of
after-asked_letter g asked at e = if-true (asks_of_symbol g asked) (To (Property asked at (65 ∷ []))) (Over (Asked asked)) e

pub finish-quote : (g : Grammar) (n v : ℕ) → 0 < n → finish g (BodyQuote n v) ≡ Some (Number Character v)
unfolding finish
finish-quote g n v h = if-true (nat_lt 0 n) (Some (Number Character v)) None (some-count n h)

pub finish-decimal : (g : Grammar) (n v : ℕ) → finish g (Figures Decimal n v) ≡ Some (Number Decimal v)
unfolding finish
finish-decimal g n v = refl

pub finish-named : (g : Grammar) (asked : _) (place : ℕ) (name : List ℕ) → finish g (Named asked place name) ≡ Some (Variable asked (symbol_at place name) NoTrees)
unfolding finish
finish-named g asked place name = refl

pub finish-property : (g : Grammar) (asked : _) (place : ℕ) (name : List ℕ) → finish g (Property asked place name) ≡ Some (Ordinary (Of asked) (symbol_at place name))
unfolding finish
finish-property g asked place name = refl

pub finish-word : (g : Grammar) (place : ℕ) (name : List ℕ) → is_ordinary g ≡ true → finish g (Word place name) ≡ Some (Ordinary Value (symbol_at place name))
unfolding finish
finish-word g place name e = if-true (is_ordinary g) (Some (Ordinary Value (symbol_at place name))) None e

-- the endings

end-body : (g : Grammar) (layers : List Layer) (at n v : ℕ) → 0 < n → Ending g layers at (Within (Body n v) layers)
end-body g layers at n v h =
    ended-after g layers at 39 (Within (Body n v) layers) (Within (BodyQuote n v) layers) (step-to g layers (Body n v) (BodyQuote n v) (record { at = at; code = 39 }) (after-body_quote g at n v))
    (ended-now g layers (at + 1) (BodyQuote n v) (Number Character v) (finish-quote g n v h))

end-body_zero : (g : Grammar) (layers : List Layer) (at : ℕ) → Ending g layers at (Within (Body 0 0) layers)
end-body_zero g layers at =
    ended-after g layers at 48 (Within (Body 0 0) layers) (Within (Body 1 (ebcdic 48)) layers) (step-to g layers (Body 0 0) (Body 1 (ebcdic 48)) (record { at = at; code = 48 }) (after-body_zero g at))
    (end-body g layers (at + 1) 1 (ebcdic 48) (omega arith))

end-quote_zero : (g : Grammar) (layers : List Layer) (at : ℕ) → Ending g layers at (Within (BodyQuote 0 0) layers)
end-quote_zero g layers at =
    ended-after g layers at 39 (Within (BodyQuote 0 0) layers) (Within (Body 1 (ebcdic 39)) layers) (step-to g layers (BodyQuote 0 0) (Body 1 (ebcdic 39)) (record { at = at; code = 39 }) (after-quote_zero g at))
    (end-body g layers (at + 1) 1 (ebcdic 39) (omega arith))

end-ampersand : (g : Grammar) (layers : List Layer) (at n v : ℕ) → has_room Character n v (ebcdic 38) ≡ true → Ending g layers at (Within (BodyAmpersand n v) layers)
end-ampersand g layers at n v h =
    ended-after g layers at 38 (Within (BodyAmpersand n v) layers) (Within (Body (n + 1) (v * 256 + ebcdic 38)) layers)
    (step-to g layers (BodyAmpersand n v) (Body (n + 1) (v * 256 + ebcdic 38)) (record { at = at; code = 38 }) (after-second g at n v h))
    (end-body g layers (at + 1) (n + 1) (v * 256 + ebcdic 38) (omega arith))

end-hexadecimal : (g : Grammar) (layers : List Layer) (at n v : ℕ) → 0 < n → Ending g layers at (Within (Figures Hexadecimal n v) layers)
end-hexadecimal g layers at n v h =
    ended-after g layers at 39 (Within (Figures Hexadecimal n v) layers) (Have (Number Hexadecimal v) layers) (step-done g layers (Figures Hexadecimal n v) Hexadecimal v (record { at = at; code = 39 }) (after-hexadecimal g at n v h))
    (record { rest = []; last = Have (Number Hexadecimal v) layers; runs = refl; ends = ends_tree (Number Hexadecimal v) refl refl })

end-binary : (g : Grammar) (layers : List Layer) (at n v : ℕ) → 0 < n → Ending g layers at (Within (Figures Binary n v) layers)
end-binary g layers at n v h =
    ended-after g layers at 39 (Within (Figures Binary n v) layers) (Have (Number Binary v) layers) (step-done g layers (Figures Binary n v) Binary v (record { at = at; code = 39 }) (after-binary g at n v h))
    (record { rest = []; last = Have (Number Binary v) layers; runs = refl; ends = ends_tree (Number Binary v) refl refl })

end-hexadecimal_zero : (g : Grammar) (layers : List Layer) (at : ℕ) → Ending g layers at (Within (Figures Hexadecimal 0 0) layers)
end-hexadecimal_zero g layers at =
    ended-after g layers at 48 (Within (Figures Hexadecimal 0 0) layers) (Within (Figures Hexadecimal 1 0) layers) (step-to g layers (Figures Hexadecimal 0 0) (Figures Hexadecimal 1 0) (record { at = at; code = 48 }) (after-hexadecimal_zero g at))
    (end-hexadecimal g layers (at + 1) 1 0 (omega arith))

end-binary_zero : (g : Grammar) (layers : List Layer) (at : ℕ) → Ending g layers at (Within (Figures Binary 0 0) layers)
end-binary_zero g layers at =
    ended-after g layers at 48 (Within (Figures Binary 0 0) layers) (Within (Figures Binary 1 0) layers) (step-to g layers (Figures Binary 0 0) (Figures Binary 1 0) (record { at = at; code = 48 }) (after-binary_zero g at))
    (end-binary g layers (at + 1) 1 0 (omega arith))

-- nothing so far, or something
zero-or_some : (n : ℕ) → (n ≡ 0) ⊎ (0 < n)
zero-or_some zero = inl refl
zero-or_some (suc n) = inr (omega arith)

end-figures : (g : Grammar) (layers : List Layer) (at : ℕ) (form : _) (n v : ℕ) → IsPart g (Figures form n v) → (n ≡ 0) ⊎ (0 < n) → Ending g layers at (Within (Figures form n v) layers)
end-figures g layers at Decimal n v i c = ended-now g layers at (Figures Decimal n v) (Number Decimal v) (finish-decimal g n v)
end-figures g layers at Character n v i c = let no : false ≡ true = i.2 in cc
end-figures g layers at Hexadecimal n v i (inl e) =
    subst (λ (w : ℕ). Ending g layers at (Within (Figures Hexadecimal n w) layers)) (sym (i.4 e))
    (subst (λ (m : ℕ). Ending g layers at (Within (Figures Hexadecimal m 0) layers)) (sym e) (end-hexadecimal_zero g layers at))
end-figures g layers at Hexadecimal n v i (inr h) = end-hexadecimal g layers at n v h
end-figures g layers at Binary n v i (inl e) =
    subst (λ (w : ℕ). Ending g layers at (Within (Figures Binary n w) layers)) (sym (i.4 e))
    (subst (λ (m : ℕ). Ending g layers at (Within (Figures Binary m 0) layers)) (sym e) (end-binary_zero g layers at))
end-figures g layers at Binary n v i (inr h) = end-binary g layers at n v h

end-body_any : (g : Grammar) (layers : List Layer) (at n v : ℕ) → (n ≡ 0 → v ≡ 0) → (n ≡ 0) ⊎ (0 < n) → Ending g layers at (Within (Body n v) layers)
end-body_any g layers at n v z (inl e) =
    subst (λ (w : ℕ). Ending g layers at (Within (Body n w) layers)) (sym (z e)) (subst (λ (m : ℕ). Ending g layers at (Within (Body m 0) layers)) (sym e) (end-body_zero g layers at))
end-body_any g layers at n v z (inr h) = end-body g layers at n v h

end-quote_any : (g : Grammar) (layers : List Layer) (at n v : ℕ) → (n ≡ 0 → v ≡ 0) → (n ≡ 0) ⊎ (0 < n) → Ending g layers at (Within (BodyQuote n v) layers)
end-quote_any g layers at n v z (inl e) =
    subst (λ (w : ℕ). Ending g layers at (Within (BodyQuote n w) layers)) (sym (z e)) (subst (λ (m : ℕ). Ending g layers at (Within (BodyQuote m 0) layers)) (sym e) (end-quote_zero g layers at))
end-quote_any g layers at n v z (inr h) = ended-now g layers at (BodyQuote n v) (Number Character v) (finish-quote g n v h)

end-sigil : (g : Grammar) (layers : List Layer) (at : ℕ) (asked : _) (place : ℕ) → Ending g layers at (Within (Sigil asked place) layers)
end-sigil g layers at asked place =
    ended-after g layers at 65 (Within (Sigil asked place) layers) (Within (Named asked place (65 ∷ [])) layers) (step-to g layers (Sigil asked place) (Named asked place (65 ∷ [])) (record { at = at; code = 65 }) (after-sigil_letter g asked place at))
    (ended-now g layers (at + 1) (Named asked place (65 ∷ [])) (Variable asked (symbol_at place (65 ∷ [])) NoTrees) (finish-named g asked place (65 ∷ [])))

end-asked : (g : Grammar) (layers : List Layer) (at : ℕ) (asked : _) → IsPart g (Asked asked) → Ending g layers at (Within (Asked asked) layers)
end-asked g layers at asked (inl e) =
    ended-after g layers at 38 (Within (Asked asked) layers) (Within (Sigil (Of asked) at) layers) (step-to g layers (Asked asked) (Sigil (Of asked) at) (record { at = at; code = 38 }) (after-asked_sigil g asked at e))
    (end-sigil g layers (at + 1) (Of asked) at)
end-asked g layers at asked (inr e) =
    ended-after g layers at 65 (Within (Asked asked) layers) (Within (Property asked at (65 ∷ [])) layers) (step-to g layers (Asked asked) (Property asked at (65 ∷ [])) (record { at = at; code = 65 }) (after-asked_letter g asked at e))
    (ended-now g layers (at + 1) (Property asked at (65 ∷ [])) (Ordinary (Of asked) (symbol_at at (65 ∷ []))) (finish-property g asked at (65 ∷ [])))

end-plain : (g : Grammar) (layers : List Layer) (at : ℕ) (begun : Part) → is_word begun ≡ false → IsPart g begun → Ending g layers at (Within begun layers)
end-plain g layers at (Figures form n v) w i = end-figures g layers at form n v i (zero-or_some n)
end-plain g layers at (Body n v) w i = end-body_any g layers at n v i.2 (zero-or_some n)
end-plain g layers at (BodyQuote n v) w i = end-quote_any g layers at n v i.2 (zero-or_some n)
end-plain g layers at (BodyAmpersand n v) w i = end-ampersand g layers at n v i
end-plain g layers at (Asked asked) w i = end-asked g layers at asked i
end-plain g layers at (Sigil asked place) w i = end-sigil g layers at asked place
end-plain g layers at (Word place name) w i = cc
end-plain g layers at (Property asked place name) w i = ended-now g layers at (Property asked place name) (Ordinary (Of asked) (symbol_at place name)) (finish-property g asked place name)
end-plain g layers at (Named asked place name) w i = ended-now g layers at (Named asked place name) (Variable asked (symbol_at place name) NoTrees) (finish-named g asked place name)

after-letter : (g : Grammar) (at place u : ℕ) (begun : Part) → opening g u ≡ Some begun → after g (Word place (u ∷ [])) (record { at = at; code = 39 }) ≡ To begun
unfolding after kind_of
after-letter g at place u begun e = ap (λ (found : Option Part). opened found (Word place (u ∷ []))) e

opened-part : (g : Grammar) (u : ℕ) (begun : Part) → opening g u ≡ Some begun → IsPart g begun
opened-part g u begun e = let all : AllOpen g u (Some begun) = subst (AllOpen g u) e (opens g u) in all.0

opened-no_word : (g : Grammar) (u : ℕ) (begun : Part) → opening g u ≡ Some begun → is_word begun ≡ false
opened-no_word g u begun e = let all : AllOpen g u (Some begun) = subst (AllOpen g u) e (opens g u) in all.2

end-word : (g : Grammar) (layers : List Layer) (at place : ℕ) (name : List ℕ) → IsLetterOf g name → Ending g layers at (Within (Word place name) layers)
end-word g layers at place name (whole e) = ended-now g layers at (Word place name) (Ordinary Value (symbol_at place name)) (finish-word g place name e)
end-word g layers at place name (letter u n begun e) =
    subst (λ (xs : List ℕ). Ending g layers at (Within (Word place xs) layers)) (sym n)
    (ended-after g layers at 39 (Within (Word place (u ∷ [])) layers) (Within begun layers) (step-to g layers (Word place (u ∷ [])) begun (record { at = at; code = 39 }) (after-letter g at place u begun e))
    (end-plain g layers (at + 1) begun (opened-no_word g u begun e) (opened-part g u begun e)))

end-part : (g : Grammar) (layers : List Layer) (at : ℕ) (begun : Part) → IsPart g begun → Ending g layers at (Within begun layers)
end-part g layers at (Word place name) i = end-word g layers at place name i
end-part g layers at begun i = end-plain g layers at begun refl i

-- A state is completed.

part-completes : (g : Grammar) (layers : List Layer) (at : ℕ) (cs : List Placed) (last : State) → Holds g last cs → Ends g layers last → Completes g at cs (layers_size layers + 1)
part-completes g layers at cs last h (ends_tree found s e) =
    same-size g at cs (layers_size layers + size found) (layers_size layers + 1) (ap (λ n. layers_size layers + n) e) (have-completes g layers at found cs (subst (λ (x : State). Holds g x cs) s h))
part-completes g layers at cs last h (ends_part part found s e) =
    let held : Holds g (Within part layers) cs = subst (λ (x : State). Holds g x cs) s h in
    let f : Finished g part found = subst (AllFinished g part) e (finishes g part held.stands.0) in
    same-size g at cs (layers_size layers + size found) (layers_size layers + 1) (ap (λ n. layers_size layers + n) f.one)
    (have-completes g layers at found cs (finished-holds g part layers cs found f held))

pub placed-append : (at : ℕ) (a b : List ℕ) → placed at (a ++ b) ≡ placed at a ++ placed (at + length a) b
placed-append at [] b = ap (λ n. placed n b) (sym (add-zero at))
placed-append at (c ∷ a) b = ap (λ ps. record { at = at; code = c } ∷ ps) (placed-append (at + 1) a b ∙ ap (λ n. placed (at + 1) a ++ placed n b) (omega arith))

ending-completes : (g : Grammar) (layers : List Layer) (at : ℕ) (cs : List Placed) (state : State) → Holds g state cs → Ending g layers at state → Completes g at cs (layers_size layers + 1)
ending-completes g layers at cs state h end =
    let held : Holds g end.last (cs ++ placed at end.rest) = subst (λ (s : Option State). AllHold g s (cs ++ placed at end.rest)) end.runs (runs g (placed at end.rest) state cs h) in
    let c = part-completes g layers (at + length end.rest) (cs ++ placed at end.rest) end.last held end.ends in
    let e : (cs ++ placed at end.rest) ++ placed (at + length end.rest) c.rest ≡ cs ++ placed at (end.rest ++ c.rest) =
    append_assoc cs (placed at end.rest) (placed (at + length end.rest) c.rest) ∙ ap (λ ps. cs ++ ps) (sym (placed-append at end.rest c.rest)) in
    record { rest = end.rest ++ c.rest; tree = c.tree; fits = c.fits; reads = subst (Reads g (Gap ∷ spell c.tree (Gap ∷ []))) e c.reads; exact = c.exact }

want-digit : (g : Grammar) (layers : List Layer) (at : ℕ) → step g (Want layers) (record { at = at; code = 48 }) ≡ Some (Within (Figures Decimal 1 0) layers)
unfolding step kind_of
want-digit g layers at = refl

-- whatever was read can be completed
pub completes : (g : Grammar) (state : State) (at : ℕ) (cs : List Placed) → Holds g state cs → Completes g at cs (weight state)
completes g (Want layers) at cs h =
    ending-completes g layers at cs (Want layers) h
    (ended-after g layers at 48 (Want layers) (Within (Figures Decimal 1 0) layers) (want-digit g layers at)
    (ended-now g layers (at + 1) (Figures Decimal 1 0) (Number Decimal 0) (finish-decimal g 1 0)))
completes g (Have found layers) at cs h = have-completes g layers at found cs h
completes g (Within begun layers) at cs h = ending-completes g layers at cs (Within begun layers) h (end-part g layers at begun h.stands.0)
