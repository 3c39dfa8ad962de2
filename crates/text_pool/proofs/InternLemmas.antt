-- What comes of a text that is live already, and of one that is not.
use Rattle.std.proofs.Common.{◌≡◌, ◌+◌, ℕ, List, Option, Some, None, Result, Ok, Err, IfOk, refl, sym, ap, subst, ◌∙◌}
use Rattle.std.specs.Str.{chars, IsUtf8}
use Rattle.std.specs.Rc.{rc_str_bytes}
use Rattle.std.specs.Option.{option_map, option_map_or}
use Rattle.std.specs.FinMap as finite
use Rattle.std.specs.BTreeMap.{BTreeMap}
use Rattle.hl_base.specs.declared.place.TextId.{TextId}
use Rattle.slab.specs.Slab.{Slab, get, Updates}
use Rattle.text_pool.specs.Pool.{Held, Pool, IsLive, text_of, owners_of, with_owners, IsInterned}
use Rattle.text_pool.specs.Marks.{mark_of}
use Rattle.text_pool.specs.Entries.{held_of, stamp, pool_of, IsIndexed}
use Rattle.text_pool.specs.declared.entry.Entry.{Entry}
use Rattle.text_pool.specs.declared.entry.Key.{Key}
use Rattle.text_pool.specs.declared.fault.PoolFault.{PoolFault}
use Rattle.text_pool.proofs.PoolLemmas.{pool_of-updates, same_held, live_entry, entry_live, text_of-entry, get-pool_of}
use Rattle.text_pool.proofs.IndexLemmas.{same_bytes, same_text, same_stamp, same_number, found_entry, absent_entry, number_at, none_is_some}

-- no live text is this one
abbrev pub IsAbsent : Pool → List ℕ → Type 0
IsAbsent pool text = (id : ℕ) → IsLive pool id → ¬ (text_of pool id ≡ text)

module _ (slab : Slab Entry) (numbers : BTreeMap Key ℕ) (pool : Pool) (key : Key)
    (marked : key.mark ≡ mark_of (rc_str_bytes key.text)) (is : pool_of slab ≡ pool) (indexed : IsIndexed slab numbers) where
  -- a number that is found is live
  pub found-live : (id : ℕ) → number_at numbers (stamp key) ≡ Some id → IsLive pool id
  found-live id found =
      let entry = found_entry slab numbers indexed (stamp key) id found in
      entry_live slab pool id entry.0 is entry.1

  -- a text that is not found is not live
  pub absent_from_number : IsUtf8 (rc_str_bytes key.text) → number_at numbers (stamp key) ≡ None →
      IsAbsent pool (chars (rc_str_bytes key.text))
  absent_from_number utf8 absent id live same =
      let entry = live_entry slab pool id is live in
      absent_entry slab numbers indexed (stamp key) id entry.0 absent entry.1
      (same_stamp entry.0.key key (indexed.marked id entry.0 entry.1) marked
      (same_bytes _ _ (indexed.utf8 id entry.0 entry.1) utf8 (sym (text_of-entry slab pool id entry.0 is entry.1) ∙ same)))

  number_by_cases : IsAbsent pool (chars (rc_str_bytes key.text)) → (found : Option ℕ) → number_at numbers (stamp key) ≡ found →
      found ≡ None
  number_by_cases absent None at = refl
  number_by_cases absent (Some id) at =
      let entry = found_entry slab numbers indexed (stamp key) id at in
      absurd (absent id (entry_live slab pool id entry.0 is entry.1)
      (text_of-entry slab pool id entry.0 is entry.1 ∙ ap chars (same_text entry.0.key key entry.2)))

  -- a text that is not live is not found
  pub number_from_absent : IsAbsent pool (chars (rc_str_bytes key.text)) → number_at numbers (stamp key) ≡ None
  number_from_absent absent = number_by_cases absent _ refl

  -- one owner more of the text that was found
  IsInterned-found : IsUtf8 (rc_str_bytes key.text) → (id : ℕ) → number_at numbers (stamp key) ≡ Some id → (new : Pool) →
      new ≡ with_owners pool id (owners_of pool id + 1) → IsInterned pool new (chars (rc_str_bytes key.text)) id
  IsInterned-found utf8 id found new owned =
      let entry = found_entry slab numbers indexed (stamp key) id found in
      let bytes : rc_str_bytes entry.0.key.text ≡ rc_str_bytes key.text = same_text entry.0.key key entry.2 in
      let text : text_of pool id ≡ chars (rc_str_bytes key.text) = text_of-entry slab pool id entry.0 is entry.1 ∙ ap chars bytes in
      record {
        number = λ other live.
            let held = live_entry slab pool other is live in (
              (λ same. same_number slab numbers indexed other id held.0 entry.0 held.1 entry.1
                  (same_stamp held.0.key entry.0.key (indexed.marked other held.0 held.1) (indexed.marked id entry.0 entry.1)
                  (same_bytes _ _ (indexed.utf8 other held.0 held.1) (indexed.utf8 id entry.0 entry.1)
                  (sym (text_of-entry slab pool other held.0 is held.1) ∙ same ∙ ap chars (sym bytes))))),
              (λ same. ap (text_of pool) same ∙ text),
            );
        counted = owned ∙ ap (finite.insert pool id) (same_held _ _ _ _ text refl);
      }

  pub interned_found : IsUtf8 (rc_str_bytes key.text) → (id : ℕ) → number_at numbers (stamp key) ≡ Some id → (new : Pool) →
      (result : Result TextId PoolFault) → IfOk result (λ r. (r.0 ≡ id) × (new ≡ with_owners pool id (owners_of pool id + 1))) →
      IfOk result (λ r. IsInterned pool new (chars (rc_str_bytes key.text)) r.0)
  interned_found utf8 id found new (Ok r) owned =
      subst (IsInterned pool new (chars (rc_str_bytes key.text))) (sym owned.0) (IsInterned-found utf8 id found new owned.1)
  interned_found utf8 id found new (Err fault) owned = tt

-- a text that was not live under a number that was free
pub IsInterned-admitted : (ready new : Slab Entry) (pool : Pool) (id : ℕ) (entry : Entry) (bytes : List ℕ) →
    pool_of ready ≡ pool → get ready id ≡ None → Updates ready new id (Some entry) → rc_str_bytes entry.key.text ≡ bytes →
    entry.owners ≡ 1 → IsAbsent pool (chars bytes) → IsInterned pool (pool_of new) (chars bytes) id
IsInterned-admitted ready new pool id entry bytes is free updates text owners absent =
    let nothing : finite.get pool id ≡ None = ap (λ p. finite.get p id) (sym is) ∙ get-pool_of ready id ∙ ap (option_map held_of) free in
    let nobody : owners_of pool id ≡ 0 = ap (λ held. option_map_or (λ (h : Held). h.owners) held 0) nothing in
    record {
      number = λ other live.
          let held = live_entry ready pool other is live in (
            (λ same. absurd (absent other live same)),
            (λ same. absurd (none_is_some (get ready id) held.0 free (ap (get ready) (sym same) ∙ held.1))),
          );
      counted =
          pool_of-updates ready new id entry updates
          ∙ ap (λ p. finite.insert p id (held_of entry)) is
          ∙ ap (finite.insert pool id) (same_held _ _ _ _ (ap chars text) (owners ∙ ap (λ n. n + 1) (sym nobody)));
    }
