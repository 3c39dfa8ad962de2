-- What a caller has of the pool after a call: the number that was given is live with its text, and other numbers keep
-- what they had.
use Rattle.std.proofs.Common.{◌≡◌, ◌≢◌, ◌+◌, ℕ, List, None, IsSome, [], refl, sym, ap, subst, ◌∙◌, inl, inr}
use Rattle.std.specs.Option.{option_map_or}
use Rattle.std.specs.Ordering.{nat_cmp}
use Rattle.std.specs.FinMap as finite
use Rattle.std.specs.FinMap.{get-empty}
use Rattle.std.proofs.lemmas.Bool.{cases_eq}
use Rattle.text_pool.specs.Pool.{Held, Pool, IsLive, text_of, owners_of, holding, with_owners, IsInterned}
use Rattle.text_pool.proofs.PoolLemmas.{get-insert-same, get-insert-other, get-remove-other}

-- a number that is held is live, with that text and so many owners
pub IsLive-holding : (pool : Pool) (id : ℕ) (text : List ℕ) (owners : ℕ) → IsLive (holding pool id text owners) id
IsLive-holding pool id text owners = subst IsSome (sym (get-insert-same pool id id _ refl)) refl

pub text_of-holding : (pool : Pool) (id : ℕ) (text : List ℕ) (owners : ℕ) → text_of (holding pool id text owners) id ≡ text
text_of-holding pool id text owners =
    ap (λ held. option_map_or (λ (h : Held). h.text) held []) (get-insert-same pool id id _ refl)

pub owners_of-holding : (pool : Pool) (id : ℕ) (text : List ℕ) (owners : ℕ) → owners_of (holding pool id text owners) id ≡ owners
owners_of-holding pool id text owners =
    ap (λ held. option_map_or (λ (h : Held). h.owners) held 0) (get-insert-same pool id id _ refl)

-- every live number stays live where one is held
pub IsLive-holding-other : (pool : Pool) (id other : ℕ) (text : List ℕ) (owners : ℕ) → IsLive pool other →
    IsLive (holding pool id text owners) other
IsLive-holding-other pool id other text owners live =
    elim (cases_eq other id) [
      | inl same ↦ subst IsSome (sym (get-insert-same pool id other _ same)) refl
      | inr differ ↦ subst IsSome (sym (get-insert-other pool id other _ differ)) live
    ]

-- the number that was given is live, and stands for the text
pub IsInterned-live : (old new : Pool) (text : List ℕ) (id : ℕ) → IsInterned old new text id → IsLive new id
IsInterned-live old new text id interned =
    subst (λ (p : Pool). IsLive p id) (sym interned.counted) (IsLive-holding old id text _)

pub IsInterned-text : (old new : Pool) (text : List ℕ) (id : ℕ) → IsInterned old new text id → text_of new id ≡ text
IsInterned-text old new text id interned =
    ap (λ p. text_of p id) interned.counted ∙ text_of-holding old id text _

pub IsInterned-owners : (old new : Pool) (text : List ℕ) (id : ℕ) → IsInterned old new text id →
    owners_of new id ≡ owners_of old id + 1
IsInterned-owners old new text id interned =
    ap (λ p. owners_of p id) interned.counted ∙ owners_of-holding old id text _

-- what was live is live, with its text
pub IsInterned-others : (old new : Pool) (text : List ℕ) (id : ℕ) → IsInterned old new text id →
    (other : ℕ) → IsLive old other → IsLive new other
IsInterned-others old new text id interned other live =
    subst (λ (p : Pool). IsLive p other) (sym interned.counted) (IsLive-holding-other old id other text _ live)

pub IsInterned-others_text : (old new : Pool) (text : List ℕ) (id : ℕ) → IsInterned old new text id →
    (other : ℕ) → IsLive old other → text_of new other ≡ text_of old other
IsInterned-others_text old new text id interned other live =
    elim (cases_eq other id) [
      | inl same ↦
          ap (text_of new) same ∙ IsInterned-text old new text id interned ∙ sym ((interned.number other live).1 same)
      | inr differ ↦
          ap (λ p. text_of p other) interned.counted
          ∙ ap (λ held. option_map_or (λ (h : Held). h.text) held []) (get-insert-other old id other _ differ)
    ]

-- a text whose owners were counted anew is live, and has that count
pub IsLive-recounted : (old new : Pool) (id owners : ℕ) → new ≡ with_owners old id owners → IsLive new id
IsLive-recounted old new id owners is = subst (λ (p : Pool). IsLive p id) (sym is) (IsLive-holding old id _ owners)

pub owners_of-recounted : (old new : Pool) (id owners : ℕ) → new ≡ with_owners old id owners → owners_of new id ≡ owners
owners_of-recounted old new id owners is = ap (λ p. owners_of p id) is ∙ owners_of-holding old id _ owners

pub text_of-recounted : (old new : Pool) (id owners : ℕ) → new ≡ with_owners old id owners → text_of new id ≡ text_of old id
text_of-recounted old new id owners is = ap (λ p. text_of p id) is ∙ text_of-holding old id _ owners

-- where nothing is held, the number is not live
pub IsLive-none : (pool : Pool) (id : ℕ) → finite.get pool id ≡ None → ¬ IsLive pool id
IsLive-none pool id none live = absurd (cc)

-- nobody owns a text of an empty pool
pub owners_of-empty : (pool : Pool) (id : ℕ) → pool ≡ finite.empty → owners_of pool id ≡ 0
owners_of-empty pool id is =
    ap (λ held. option_map_or (λ (h : Held). h.owners) held 0) (ap (λ p. finite.get p id) is ∙ get-empty nat_cmp id)

-- where another number is freed, a live one stays live
pub IsLive-removed : (old new : Pool) (id other : ℕ) → new ≡ finite.remove old id → other ≢ id → IsLive old other → IsLive new other
IsLive-removed old new id other is differ live =
    subst IsSome (sym (ap (λ p. finite.get p other) is ∙ get-remove-other old id other differ)) live

-- for goals after a call of `intern`
pub ruleset interned = (IsInterned-live, IsInterned-text, IsInterned-owners, IsInterned-others, IsInterned-others_text)
