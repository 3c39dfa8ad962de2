-- What the pool's map has under each number, told of the entries that it is made of.
use Rattle.std.proofs.Common.{◌≡◌, ◌≢◌, ◌+◌, ◌<◌, ℕ, zero, suc, true, false, cond, List, [], ◌∷◌, Option, Some, None, IsSome, refl, sym, ap, subst, ◌∙◌, inl, inr, arith, get_or}
use Rattle.std.specs.Ordering.{nat_cmp, eq_by_cmp}
use Rattle.std.specs.Str.{chars}
use Rattle.std.specs.Rc.{rc_str_bytes}
use Rattle.std.specs.Option.{option_map, option_map_or}
use Rattle.std.specs.Cmp.{nat_cmp_total, unsigned_tied}
use Rattle.std.specs.FinMap as finite
use Rattle.std.specs.FinMap.{get-empty, get-insert, get-remove, same_map, nat_cmp-IsAntisymmetric}
use Rattle.std.proofs.lemmas.Bool.{cases_eq}
use Rattle.slab.specs.Slab.{Slab, get, ContainsKey, Updates}
use Rattle.text_pool.specs.Pool.{Held, Pool, IsLive, text_of, owners_of, with_owners}
use Rattle.text_pool.specs.Entries.{held_of, pool_from, pool_of}
use Rattle.text_pool.specs.declared.entry.Entry.{Entry}
use Rattle.text_pool.specs.declared.entry.Key.{Key}

eq_by_cmp-same : (id other : ℕ) → id ≡ other → eq_by_cmp nat_cmp id other ≡ true
eq_by_cmp-same id other same = unsigned_tied id other ∙ grind arith

eq_by_cmp-differ : (id other : ℕ) → id ≢ other → eq_by_cmp nat_cmp id other ≡ false
eq_by_cmp-differ id other differ = unsigned_tied id other ∙ grind arith

-- what a map has where a number was set, and elsewhere
pub get-insert-same : (pool : Pool) (id other : ℕ) (held : Held) → other ≡ id →
    finite.get (finite.insert pool id held) other ≡ Some held
get-insert-same pool id other held same =
    get-insert nat_cmp_total pool id held other
    ∙ ap (λ b. cond b (Some held) (finite.get pool other)) (eq_by_cmp-same other id same)

pub get-insert-other : (pool : Pool) (id other : ℕ) (held : Held) → other ≢ id →
    finite.get (finite.insert pool id held) other ≡ finite.get pool other
get-insert-other pool id other held differ =
    get-insert nat_cmp_total pool id held other
    ∙ ap (λ b. cond b (Some held) (finite.get pool other)) (eq_by_cmp-differ other id differ)

pub get-remove-same : (pool : Pool) (id other : ℕ) → other ≡ id → finite.get (finite.remove pool id) other ≡ None
get-remove-same pool id other same =
    get-remove nat_cmp_total pool id other
    ∙ ap (λ b. cond b None (finite.get pool other)) (eq_by_cmp-same other id same)

pub get-remove-other : (pool : Pool) (id other : ℕ) → other ≢ id →
    finite.get (finite.remove pool id) other ≡ finite.get pool other
get-remove-other pool id other differ =
    get-remove nat_cmp_total pool id other
    ∙ ap (λ b. cond b None (finite.get pool other)) (eq_by_cmp-differ other id differ)

-- nothing stands under a number before the first
get-pool_from-before : (first : ℕ) (slots : List (Option Entry)) (id : ℕ) → id < first →
    finite.get (pool_from first slots) id ≡ None
get-pool_from-before first [] id before = get-empty nat_cmp id
get-pool_from-before first (None ∷ rest) id before = get-pool_from-before (first + 1) rest id (omega arith)
get-pool_from-before first (Some entry ∷ rest) id before =
    let differ : id ≢ first = omega arith in
    get-insert-other (pool_from (first + 1) rest) first id (held_of entry) differ
    ∙ get-pool_from-before (first + 1) rest id (omega arith)

-- under each number stands what its slot has
get-pool_from : (first : ℕ) (slots : List (Option Entry)) (at id : ℕ) → id ≡ first + at →
    finite.get (pool_from first slots) id ≡ option_map held_of (get_or slots at None)
get-pool_from first [] at id is = get-empty nat_cmp id
get-pool_from first (None ∷ rest) zero id is = get-pool_from-before (first + 1) rest id (omega arith)
get-pool_from first (Some entry ∷ rest) zero id is =
    let same : id ≡ first = omega arith in
    get-insert-same (pool_from (first + 1) rest) first id (held_of entry) same
get-pool_from first (None ∷ rest) (suc at) id is = get-pool_from (first + 1) rest at id (omega arith)
get-pool_from first (Some entry ∷ rest) (suc at) id is =
    let differ : id ≢ first = omega arith in
    get-insert-other (pool_from (first + 1) rest) first id (held_of entry) differ
    ∙ get-pool_from (first + 1) rest at id (omega arith)

pub get-pool_of : (slab : Slab Entry) (id : ℕ) → finite.get (pool_of slab) id ≡ option_map held_of (get slab id)
unfolding pool_of
get-pool_of slab id = get-pool_from 0 slab.slots id id (omega arith)

-- a slab that was written under one number is the pool that was
pub pool_of-updates : (old new : Slab Entry) (id : ℕ) (entry : Entry) → Updates old new id (Some entry) →
    pool_of new ≡ finite.insert (pool_of old) id (held_of entry)
pool_of-updates old new id entry updates =
    same_map nat_cmp_total nat_cmp-IsAntisymmetric _ _ (λ other.
    elim (cases_eq other id) [
      | inl same ↦
          get-pool_of new other
          ∙ ap (option_map held_of) (ap (get new) same ∙ updates.changed)
          ∙ sym (get-insert-same (pool_of old) id other (held_of entry) same)
      | inr differ ↦
          get-pool_of new other
          ∙ ap (option_map held_of) (updates.others other differ)
          ∙ sym (get-pool_of old other)
          ∙ sym (get-insert-other (pool_of old) id other (held_of entry) differ)
    ])

-- a slab that lost what stood under a number is the pool without it
pub pool_of-removes : (old new : Slab Entry) (id : ℕ) → Updates old new id None →
    pool_of new ≡ finite.remove (pool_of old) id
pool_of-removes old new id updates =
    same_map nat_cmp_total nat_cmp-IsAntisymmetric _ _ (λ other.
    elim (cases_eq other id) [
      | inl same ↦
          get-pool_of new other
          ∙ ap (option_map held_of) (ap (get new) same ∙ updates.changed)
          ∙ sym (get-remove-same (pool_of old) id other same)
      | inr differ ↦
          get-pool_of new other
          ∙ ap (option_map held_of) (updates.others other differ)
          ∙ sym (get-pool_of old other)
          ∙ sym (get-remove-other (pool_of old) id other differ)
    ])

some_of_map : (found : Option Entry) → IsSome (option_map held_of found) → (entry : Entry) × (found ≡ Some entry)
some_of_map (Some entry) some = (entry, refl)
some_of_map None some = absurd (cc)

-- a live number has an entry
pub live_entry : (slab : Slab Entry) (pool : Pool) (id : ℕ) → pool_of slab ≡ pool → IsLive pool id →
    (entry : Entry) × (get slab id ≡ Some entry)
live_entry slab pool id is live =
    some_of_map (get slab id) (subst IsSome (sym (ap (λ p. finite.get p id) is) ∙ get-pool_of slab id) live)

pub live_contains : (slab : Slab Entry) (pool : Pool) (id : ℕ) → pool_of slab ≡ pool → IsLive pool id → ContainsKey slab id
live_contains slab pool id is live =
    subst IsSome (sym (live_entry slab pool id is live).1) refl

-- what the pool holds under a number with an entry
pub held-pool_of : (slab : Slab Entry) (pool : Pool) (id : ℕ) (entry : Entry) → pool_of slab ≡ pool → get slab id ≡ Some entry →
    finite.get pool id ≡ Some (held_of entry)
held-pool_of slab pool id entry is found =
    ap (λ p. finite.get p id) (sym is) ∙ get-pool_of slab id ∙ ap (option_map held_of) found

pub entry_live : (slab : Slab Entry) (pool : Pool) (id : ℕ) (entry : Entry) → pool_of slab ≡ pool → get slab id ≡ Some entry →
    IsLive pool id
entry_live slab pool id entry is found = subst IsSome (sym (held-pool_of slab pool id entry is found)) refl

pub text_of-entry : (slab : Slab Entry) (pool : Pool) (id : ℕ) (entry : Entry) → pool_of slab ≡ pool → get slab id ≡ Some entry →
    text_of pool id ≡ chars (rc_str_bytes entry.key.text)
text_of-entry slab pool id entry is found =
    ap (λ held. option_map_or (λ (h : Held). h.text) held []) (held-pool_of slab pool id entry is found)

pub owners_of-entry : (slab : Slab Entry) (pool : Pool) (id : ℕ) (entry : Entry) → pool_of slab ≡ pool → get slab id ≡ Some entry →
    owners_of pool id ≡ entry.owners
owners_of-entry slab pool id entry is found =
    ap (λ held. option_map_or (λ (h : Held). h.owners) held 0) (held-pool_of slab pool id entry is found)

pub same_held : (text same : List ℕ) (owners count : ℕ) → text ≡ same → owners ≡ count →
    let one : Held = record { text = text; owners = owners } in
    let two : Held = record { text = same; owners = count } in one ≡ two
same_held text same owners count t n = λ i. record { text = t i; owners = n i }

-- the pool after another count of owners was written
pub pool_of-recounted : (old new : Slab Entry) (pool : Pool) (id : ℕ) (entry written : Entry) (count : ℕ) →
    pool_of old ≡ pool → get old id ≡ Some entry → Updates old new id (Some written) → written.key ≡ entry.key →
    written.owners ≡ count → pool_of new ≡ with_owners pool id count
pool_of-recounted old new pool id entry written count is was updates same counted =
    pool_of-updates old new id written updates
    ∙ ap (λ p. finite.insert p id (held_of written)) is
    ∙ ap (finite.insert pool id) (same_held _ _ _ _
    (ap (λ (k : Key). chars (rc_str_bytes k.text)) same ∙ sym (text_of-entry old pool id entry is was)) counted)

pub pool_of-kept : (old new : Slab Entry) (pool : Pool) → new.slots ≡ old.slots → pool_of old ≡ pool → pool_of new ≡ pool
unfolding pool_of
pool_of-kept old new pool slots is = ap (pool_from 0) slots ∙ is
