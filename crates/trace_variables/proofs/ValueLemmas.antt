-- One declaration more, and one item more.
use Rattle.std.proofs.Common.{◌≡◌, ◌||◌, ◌+◌, ◌<◌, ◌≤◌, ℕ, zero, suc, Bool, true, false, not, Option, None, if◌then◌else◌, List, [], ◌∷◌, Some, take, map, length, refl, sym, ap, subst, ◌∙◌, arith}
use Rattle.std.specs.Prelude.{slice_get, unwrap_or}
use Rattle.std.specs.Bool.{beq, OnTrue, OnFalse}
use Rattle.std.specs.List.{fold}
use Rattle.std.specs.Option.{option_map, MatchOption}
use Rattle.std.proofs.lemmas.Bool.{OnTrue_at, OnFalse_at}
use Rattle.std.proofs.lemmas.Option.{none-some}
use Rattle.hl_base.specs.declared.set.Declaration.{Declaration}
use Rattle.trace_values.specs.declared.item.TraceItem.{TraceItem}
use Rattle.trace_arena.specs.Points.{Point}
use Rattle.trace_variables.specs.Values.{Values, has, put, unset, declared_key, after_declaration}

or_true : (x y : Bool) → x || (y || true) ≡ true
or_true true y = refl
or_true false true = refl
or_true false false = refl

pub stays_declared : (global : Bool) (values : Values) (d : Declaration) → has values (declared_key d) ≡ true →
    values ≡ after_declaration global values d
stays_declared global values d h =
    sym
    (ap (λ b. if b then values else put values (declared_key d) (unset d.kind))
    (ap (λ b. d.array || (not (beq d.global global) || b)) h ∙ or_true d.array (not (beq d.global global))))

pub puts_declared : (global : Bool) (values : Values) (d : Declaration) → d.array ≡ false → beq d.global global ≡ true →
    has values (declared_key d) ≡ false → put values (declared_key d) (unset d.kind) ≡ after_declaration global values d
puts_declared global values d scalar same h =
    sym
    (ap (λ b. if b then values else put values (declared_key d) (unset d.kind))
    (ap (λ b. b || (not (beq d.global global) || has values (declared_key d))) scalar
    ∙ ap (λ b. not b || has values (declared_key d)) same ∙ h))

pub one_more : (after : Values → TraceItem → Values) (values : Values) (ps : List (Point TraceItem)) (k : ℕ) (item : TraceItem) →
    option_map (λ p. p.item) (slice_get ps k) ≡ Some item →
    fold after values (map (λ p. p.item) (take (suc k) ps)) ≡ after (fold after values (map (λ p. p.item) (take k ps))) item
one_more after values [] k item e = absurd (none-some item e)
one_more after values (p ∷ ps) zero item e = ap (λ o. after values (unwrap_or o item)) e
one_more after values (p ∷ ps) (suc k) item e = one_more after (after values p.item) ps k item e

beq_self : (a : Bool) → beq a a ≡ true
beq_self true = refl
beq_self false = refl

pub same_beq : (a b : Bool) → a ≡ b → beq a b ≡ true
same_beq a b e = subst (λ x. beq a x ≡ true) e (beq_self a)

-- where a step from one place to the next comes
pub step_index : (b : Bool) (new old i n m : ℕ) → OnTrue b (new ≡ old + 1) → OnFalse b (m ≡ old + 1) → m ≡ n → old ≡ i → i + 1 < n → new ≡ i + 1
step_index true new old i n m next last same is lt = let on = OnTrue_at refl next in omega arith
step_index false new old i n m next last same is lt = let on = OnFalse_at refl last in absurd (omega arith)

-- where there is no point, the first few are none
pub take_none : {X : Type 0} (xs : List X) (k : ℕ) → length xs ≤ 0 → take k xs ≡ []
take_none [] zero none = refl
take_none [] (suc k) none = refl
take_none (x ∷ xs) k none = absurd (omega (arith, none))

-- where there is no cursor at the first point, there is no point
pub none_first : {X C : Type 0} (xs : List X) (k : ℕ) (o : Option C) (P : C → Type 0) → o ≡ None → MatchOption o (length xs ≤ 0) P →
    take k xs ≡ []
none_first xs k None P is none = take_none xs k none
none_first xs k (Some c) P is found = absurd (none-some c (sym is))
