-- How many own each text of a pool once one was taken in or let go, and which texts stay.
use Rattle.std.proofs.Common.{◌≡◌, ◌≢◌, ◌∙◌, ◌⊎◌, ℕ, ◌+◌, ◌-◌, ◌<◌, cond, List, [], refl, sym, inl, inr, ap, subst, arith, Some, None, IsSome, Option}
use Rattle.std.specs.Prelude.{◌==◌}
use Rattle.std.specs.Option.{option_map_or}
use Rattle.std.specs.Ordering.{nat_cmp}
use Rattle.std.specs.FinMap as finite
use Rattle.std.specs.FinMap.{get-empty}
use Rattle.std.proofs.lemmas.Bool.{cases_eq, eq-eqb, ne_eqb}
use Rattle.text_pool.specs.Pool.{Held, Pool, IsLive, text_of, owners_of, with_owners, IsInterned}
use Rattle.text_pool.proofs.PoolLemmas.{get-insert-other, get-remove-same, get-remove-other}
use Rattle.text_pool.proofs.CallerLemmas.{IsInterned-owners, IsInterned-others_text, owners_of-holding, text_of-holding}

-- one where two numbers are the same
abbrev pub one_at : ℕ → ℕ → ℕ
one_at id other = cond (id == other) 1 0

pub one_at-same : (id other : ℕ) → id ≡ other → one_at id other ≡ 1
one_at-same id other same = ap (λ b. cond b 1 0) (eq-eqb id other same)

pub one_at-other : (id other : ℕ) → other ≢ id → one_at id other ≡ 0
one_at-other id other differ = ap (λ b. cond b 1 0) (ne_eqb id other (λ same. differ (sym same)))

live_from_held : (found : Option Held) → 0 < option_map_or (λ (h : Held). h.owners) found 0 → IsSome found
live_from_held (Some held) owned = refl
live_from_held None owned = absurd (omega arith)

-- a text with an owner is live
pub IsLive-owned : (pool : Pool) (id : ℕ) → 0 < owners_of pool id → IsLive pool id
IsLive-owned pool id owned = live_from_held (finite.get pool id) owned

owners_by_get : (old new : Pool) (id : ℕ) → finite.get new id ≡ finite.get old id → owners_of new id ≡ owners_of old id
owners_by_get old new id same = ap (λ held. option_map_or (λ (h : Held). h.owners) held 0) same

text_by_get : (old new : Pool) (id : ℕ) → finite.get new id ≡ finite.get old id → text_of new id ≡ text_of old id
text_by_get old new id same = ap (λ held. option_map_or (λ (h : Held). h.text) held []) same

-- a text that came in has one owner more, and no other has
pub owners_of-interned : (old new : Pool) (text : List ℕ) (id : ℕ) → IsInterned old new text id → (other : ℕ) →
    owners_of new other ≡ owners_of old other + one_at id other
owners_of-interned old new text id interned other =
    elim (cases_eq other id) [
      | inl same ↦
          let one : one_at id other ≡ 1 = one_at-same id other (sym same) in
          let here : owners_of new id ≡ owners_of old id + 1 = IsInterned-owners old new text id interned in
          ap (owners_of new) same ∙ here ∙ ap (λ n. owners_of old n + 1) (sym same) ∙ ap (λ n. owners_of old other + n) (sym one)
      | inr differ ↦
          let none : one_at id other ≡ 0 = one_at-other id other differ in
          let is : owners_of new other ≡ owners_of old other = owners_by_get old new other (ap (λ p. finite.get p other) interned.counted ∙ get-insert-other old id other _ differ) in
          omega arith
    ]

-- what one owner less of a text leaves
pub record IsReleased (old new : Pool) (id : ℕ) : Type 0 where
  pub last : owners_of old id ≡ 1 → new ≡ finite.remove old id
  pub others : 1 < owners_of old id → new ≡ with_owners old id (owners_of old id - 1)

released_cases : (n : ℕ) → 0 < n → (n ≡ 1) ⊎ (1 < n)
released_cases n owned = elim (cases_eq n 1) [ inl one ↦ inl one | inr more ↦ inr (omega arith) ]

get-released-other : (old new : Pool) (id other : ℕ) → IsReleased old new id → 0 < owners_of old id → other ≢ id →
    finite.get new other ≡ finite.get old other
get-released-other old new id other released owned differ =
    elim (released_cases _ owned) [
      | inl one ↦ ap (λ p. finite.get p other) (released.last one) ∙ get-remove-other old id other differ
      | inr more ↦ ap (λ p. finite.get p other) (released.others more) ∙ get-insert-other old id other _ differ
    ]

owners_of-released-here : (old new : Pool) (id : ℕ) → IsReleased old new id → 0 < owners_of old id →
    owners_of new id + 1 ≡ owners_of old id
owners_of-released-here old new id released owned =
    elim (released_cases _ owned) [
      | inl one ↦
          let gone : owners_of new id ≡ 0 = ap (λ held. option_map_or (λ (h : Held). h.owners) held 0) (ap (λ p. finite.get p id) (released.last one) ∙ get-remove-same old id id refl) in
          omega arith
      | inr more ↦
          let left : owners_of new id ≡ owners_of old id - 1 = ap (λ p. owners_of p id) (released.others more) ∙ owners_of-holding old id _ _ in
          omega arith
    ]

-- a text that was let go has one owner less, and no other has
pub owners_of-released : (old new : Pool) (id : ℕ) → IsReleased old new id → 0 < owners_of old id → (other : ℕ) →
    owners_of new other + one_at id other ≡ owners_of old other
owners_of-released old new id released owned other =
    elim (cases_eq other id) [
      | inl same ↦
          let one : one_at id other ≡ 1 = one_at-same id other (sym same) in
          ap (λ n. owners_of new n + one_at id other) same ∙ ap (λ n. owners_of new id + n) one ∙ owners_of-released-here old new id released owned ∙ ap (owners_of old) (sym same)
      | inr differ ↦
          let none : one_at id other ≡ 0 = one_at-other id other differ in
          let is : owners_of new other ≡ owners_of old other = owners_by_get old new other (get-released-other old new id other released owned differ) in
          omega arith
    ]

text_of-released-here : (old new : Pool) (id : ℕ) → IsReleased old new id → 0 < owners_of old id → 0 < owners_of new id →
    text_of new id ≡ text_of old id
text_of-released-here old new id released owned left =
    elim (released_cases _ owned) [
      | inl one ↦
          let gone : owners_of new id + 1 ≡ owners_of old id = owners_of-released-here old new id released owned in
          absurd (omega arith)
      | inr more ↦ ap (λ p. text_of p id) (released.others more) ∙ text_of-holding old id _ _
    ]

-- a text that still has an owner is what it was
pub text_of-released : (old new : Pool) (id : ℕ) → IsReleased old new id → 0 < owners_of old id → (other : ℕ) → 0 < owners_of new other →
    text_of new other ≡ text_of old other
text_of-released old new id released owned other left =
    elim (cases_eq other id) [
      | inl same ↦
          let here : 0 < owners_of new id = subst (λ (n : ℕ). 0 < owners_of new n) same left in
          ap (text_of new) same ∙ text_of-released-here old new id released owned here ∙ ap (text_of old) (sym same)
      | inr differ ↦ text_by_get old new other (get-released-other old new id other released owned differ)
    ]

-- a text that had an owner is what it was, once another came in
pub text_of-interned : (old new : Pool) (text : List ℕ) (id : ℕ) → IsInterned old new text id → (other : ℕ) → 0 < owners_of old other →
    text_of new other ≡ text_of old other
text_of-interned old new text id interned other owned =
    IsInterned-others_text old new text id interned other (IsLive-owned old other owned)

-- nobody owns a text of an empty pool
pub owners_of-none : (pool : Pool) (id : ℕ) → pool ≡ finite.empty → owners_of pool id ≡ 0
owners_of-none pool id is =
    ap (λ held. option_map_or (λ (h : Held). h.owners) held 0) (ap (λ p. finite.get p id) is ∙ get-empty nat_cmp id)

-- a text that had an owner has one, once another came in
pub owned-interned : (old new : Pool) (text : List ℕ) (id other : ℕ) → IsInterned old new text id → 0 < owners_of old other → 0 < owners_of new other
owned-interned old new text id other interned owned = omega (arith, owners_of-interned old new text id interned other)
