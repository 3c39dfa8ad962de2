-- What calls have done, one point later.
use Rattle.std.proofs.Common.{◌≡◌, ◌∙◌, ◌==◌, ℕ, Bool, true, false, not, cond, nat_lt, List, [], ◌∷◌, ◌++◌, length, map, reverse, Option, Some, refl, sym, ap, arith}
use Rattle.std.specs.List.{filter, fold, take_while}
use Rattle.std.proofs.lemmas.Bool.Decides.{nat_tests}
use Rattle.std.proofs.lemmas.List.{reverse-append, map-append, append-nil}
use Rattle.std.proofs.lemmas.List.Elements.{filter-append}
use Rattle.std.proofs.lemmas.List.Sums.{fold-append, take_while-cons}
use Rattle.trace_values.specs.declared.item.TraceItem.{TraceItem}
use Rattle.trace_arena.specs.Points.{Point}
use Rattle.trace_variables.specs.Calls.{behind_last, done_before}
use Rattle.running_calls.specs.Calls.{FollowsOn, GoesOn, MeansAsTold, begun, behind_item, held, passed, reached, running, variables_or}
use Rattle.hl_base.specs.declared.place.Origin.{Origin}
use Rattle.variable_meanings.specs.Meanings.{after_item, call_with, entered}
use Rattle.running_calls.specs.declared.calls.RunningCall.{RunningCall}
use Rattle.running_calls.proofs.CallLaws.{held-here, held-inside, held-within}

kept_or_not : {X : Type 0} (b : Bool) (x : X) (ys : List X) → reverse (cond (not b) (x ∷ ys) []) ≡ cond b [] (reverse ys ++ x ∷ [])
kept_or_not true x ys = refl
kept_or_not false x ys = reverse-append (x ∷ []) ys

behind_more : {X : Type 0} (test : X → Bool) (xs : List X) (x : X) →
    behind_last test (xs ++ x ∷ []) ≡ cond (test x) [] (behind_last test xs ++ x ∷ [])
behind_more test xs x =
    ap (λ ys. reverse (take_while (λ y. not (test y)) ys)) (reverse-append xs (x ∷ []))
    ∙ ap (λ ys. reverse ys) (take_while-cons (λ y. not (test y)) x (reverse xs))
    ∙ kept_or_not (test x) x (take_while (λ y. not (test y)) (reverse xs))

own_or_not : (c : Bool) (p : Point TraceItem) (is : List TraceItem) →
    is ++ map (λ (q : Point TraceItem). q.item) (cond c (p ∷ []) []) ≡ cond c (is ++ p.item ∷ []) is
own_or_not true p is = refl
own_or_not false p is = append-nil is

passed_by : (own : Point TraceItem → Bool) (b : Bool) (p : Point TraceItem) (ps : List (Point TraceItem)) →
    map (λ q. q.item) (filter own (cond b [] (ps ++ p ∷ [])))
    ≡ cond b [] (cond (own p) (map (λ q. q.item) (filter own ps) ++ p.item ∷ []) (map (λ q. q.item) (filter own ps)))
passed_by own true p ps = refl
passed_by own false p ps =
    ap (map (λ (q : Point TraceItem). q.item)) (filter-append own ps (p ∷ []))
    ∙ map-append (λ (q : Point TraceItem). q.item) (filter own ps) (filter own (p ∷ []))
    ∙ own_or_not (own p) p (map (λ q. q.item) (filter own ps))

-- a call has begun anew at a point of fewer calls; a point of its own is one more; one of more calls is none of it
pub done_next : (level : ℕ) (ps : List (Point TraceItem)) (p : Point TraceItem) →
    done_before level (ps ++ p ∷ [])
    ≡ cond (nat_lt (length p.calls) level) [] (cond (length p.calls == level) (done_before level ps ++ p.item ∷ []) (done_before level ps))
done_next level ps p =
    ap (λ qs. map (λ (q : Point TraceItem). q.item) (filter (λ (q : Point TraceItem). length q.calls == level) qs))
    (behind_more (λ (q : Point TraceItem). nat_lt (length q.calls) level) ps p)
    ∙ passed_by (λ (q : Point TraceItem). length q.calls == level) (nat_lt (length p.calls) level) p
    (behind_last (λ (q : Point TraceItem). nat_lt (length q.calls) level) ps)

-- a call that goes on, or begins, at a point
pub running-next : (done : List TraceItem) (item : TraceItem) →
    running (done ++ item ∷ []) ≡ Some (behind_item (reached (running done) item) item)
running-next [] item = refl
running-next (first ∷ more) item = ap (λ call. Some call) (fold-append behind_item (begun first) (first ∷ more) (item ∷ []))

next_level : (calls : List (Option RunningCall)) (done : List TraceItem) (n level : ℕ) (item : TraceItem) →
    held calls level ≡ running done → (b c : Bool) → nat_lt n level ≡ b → n == level ≡ c →
    held (passed calls n item) level ≡ running (cond b [] (cond c (done ++ item ∷ []) done))
next_level calls done n level item is true c less same = held-within calls n level _ (grind (arith, nat_tests))
next_level calls done n level item is false true less same =
    let at : n ≡ level = grind (arith, nat_tests) in
    ap (λ (k : ℕ). held (passed calls n item) k) (sym at)
    ∙ held-here calls n _
    ∙ ap (λ (k : ℕ). Some (behind_item (reached (held calls k) item) item)) at
    ∙ ap (λ call. Some (behind_item (reached call item) item)) is
    ∙ sym (running-next done item)
next_level calls done n level item is false false less same = held-inside calls n level _ (grind (arith, nat_tests)) ∙ is

pub follows-on : FollowsOn
follows-on calls before point follows level =
    next_level calls (done_before level before) (length point.calls) level point.item (follows level) (nat_lt (length point.calls) level)
    (length point.calls == level) refl refl
    ∙ ap running (sym (done_next level before point))

-- ---- what variable symbols mean in a call

meant_behind : (call : RunningCall) (done : List TraceItem) → (fold behind_item call done).variables ≡ fold after_item call.variables done
meant_behind call [] = refl
meant_behind call (item ∷ more) = meant_behind (behind_item call item) more

meant_with : (done : List TraceItem) (item : TraceItem) → GoesOn done item → variables_or (running done) item ≡ call_with done item
meant_with [] item same = refl
meant_with (first ∷ more) item same =
    meant_behind (begun first) (first ∷ more)
    ∙ ap (λ (definition : Option Origin). fold after_item (entered definition first.entry) (first ∷ more)) same

pub means-as_told : MeansAsTold
means-as_told before level item same = meant_with (done_before level before) item same
