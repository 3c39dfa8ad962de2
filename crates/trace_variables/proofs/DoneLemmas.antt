-- What a call had done, one point later.
use Rattle.std.proofs.Common.{◌≡◌, ◌==◌, ℕ, zero, suc, Bool, true, false, not, cond, nat_lt, List, [], ◌∷◌, ◌++◌, length, map, reverse, take, Option, Some, None, refl, sym, ap, ◌∙◌}
use Rattle.std.specs.Prelude.{slice_get, unwrap_or}
use Rattle.std.specs.List.{filter, take_while}
use Rattle.std.specs.Option.{option_map}
use Rattle.std.proofs.lemmas.List.{reverse-append, map-append, append-nil}
use Rattle.std.proofs.lemmas.List.Elements.{filter-append}
use Rattle.std.proofs.lemmas.List.Sums.{take_while-cons}
use Rattle.std.proofs.lemmas.Option.{none-some}
use Rattle.trace_values.specs.declared.item.TraceItem.{TraceItem}
use Rattle.trace_arena.specs.Points.{Point}
use Rattle.trace_variables.specs.Calls.{behind_last, done_before}
use Rattle.trace_variables.specs.Seen.{done_with}

kept_or_not : {X : Type 0} (b : Bool) (x : X) (ys : List X) → reverse (cond (not b) (x ∷ ys) []) ≡ cond b [] (reverse ys ++ x ∷ [])
kept_or_not true x ys = refl
kept_or_not false x ys = reverse-append (x ∷ []) ys

behind_more : {X : Type 0} (test : X → Bool) (xs : List X) (x : X) →
    behind_last test (xs ++ x ∷ []) ≡ cond (test x) [] (behind_last test xs ++ x ∷ [])
behind_more test xs x =
    ap (λ ys. reverse (take_while (λ y. not (test y)) ys)) (reverse-append xs (x ∷ []))
    ∙ ap (λ ys. reverse ys) (take_while-cons (λ y. not (test y)) x (reverse xs))
    ∙ kept_or_not (test x) x (take_while (λ y. not (test y)) (reverse xs))

own_or_not : (c : Bool) (p : Point TraceItem) (is : List TraceItem) →
    is ++ map (λ (q : Point TraceItem). q.item) (cond c (p ∷ []) []) ≡ cond c (is ++ p.item ∷ []) is
own_or_not true p is = refl
own_or_not false p is = append-nil is

passed : (own : Point TraceItem → Bool) (b : Bool) (p : Point TraceItem) (ps : List (Point TraceItem)) →
    map (λ q. q.item) (filter own (cond b [] (ps ++ p ∷ [])))
    ≡ cond b [] (cond (own p) (map (λ q. q.item) (filter own ps) ++ p.item ∷ []) (map (λ q. q.item) (filter own ps)))
passed own true p ps = refl
passed own false p ps =
    ap (map (λ (q : Point TraceItem). q.item)) (filter-append own ps (p ∷ []))
    ∙ map-append (λ (q : Point TraceItem). q.item) (filter own ps) (filter own (p ∷ []))
    ∙ own_or_not (own p) p (map (λ q. q.item) (filter own ps))

done_next : (level : ℕ) (ps : List (Point TraceItem)) (p : Point TraceItem) →
    done_before level (ps ++ p ∷ []) ≡ done_with level (length p.calls) p.item (done_before level ps)
done_next level ps p =
    ap (λ qs. map (λ (q : Point TraceItem). q.item) (filter (λ (q : Point TraceItem). length q.calls == level) qs))
    (behind_more (λ (q : Point TraceItem). nat_lt (length q.calls) level) ps p)
    ∙ passed (λ (q : Point TraceItem). length q.calls == level) (nat_lt (length p.calls) level) p
    (behind_last (λ (q : Point TraceItem). nat_lt (length q.calls) level) ps)

take_next : {X : Type 0} (xs : List X) (k : ℕ) (x : X) → slice_get xs k ≡ Some x → take (suc k) xs ≡ take k xs ++ x ∷ []
take_next [] k x e = absurd (none-some x e)
take_next (y ∷ ys) zero x e = ap (λ o. unwrap_or o x ∷ []) e
take_next (y ∷ ys) (suc k) x e = ap (λ zs. y ∷ zs) (take_next ys k x e)

of_some : {X Y : Type 0} (f : X → Y) (o : Option X) (y : Y) → option_map f o ≡ Some y → (x : X) × (o ≡ Some x)
of_some f None y e = absurd (none-some y e)
of_some f (Some x) y e = (x, refl)

pub done_more : (level : ℕ) (ps : List (Point TraceItem)) (k calls : ℕ) (item : TraceItem) →
    option_map (λ (p : Point TraceItem). length p.calls) (slice_get ps k) ≡ Some calls →
    option_map (λ (p : Point TraceItem). p.item) (slice_get ps k) ≡ Some item →
    done_before level (take (suc k) ps) ≡ done_with level calls item (done_before level (take k ps))
done_more level ps k calls item within is =
    let found = of_some (λ (p : Point TraceItem). p.item) (slice_get ps k) item is in
    let p = found.0 in
    let calls_are : length p.calls ≡ calls =
    ap (λ o. unwrap_or o calls) (sym (ap (option_map (λ (q : Point TraceItem). length q.calls)) found.1) ∙ within) in
    let item_is : p.item ≡ item =
    ap (λ o. unwrap_or o item) (sym (ap (option_map (λ (q : Point TraceItem). q.item)) found.1) ∙ is) in
    ap (done_before level) (take_next ps k p found.1)
    ∙ done_next level (take k ps) p
    ∙ ap (λ n. done_with level n p.item (done_before level (take k ps))) calls_are
    ∙ ap (λ i. done_with level calls i (done_before level (take k ps))) item_is
