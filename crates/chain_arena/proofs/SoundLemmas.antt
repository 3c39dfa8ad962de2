-- An index is added to a list, or taken out: every list stays a chain, and one alone changes. Over functions of numbers.
use Rattle.std.proofs.Common.{◌≡◌, ◌⊎◌, inl, inr, ℕ, ◌+◌, ◌-◌, ◌<◌, Bool, cond, List, [], ◌∷◌, ◌++◌, Option, Some, None, length, refl, sym, ap, subst, ◌∙◌, arith, length-append}
use Rattle.std.specs.Prelude.{◌==◌}
use Rattle.std.proofs.lemmas.Bool.{cases_eq, eq-eqb, ne_eqb}
use Rattle.std.proofs.lemmas.Option.{same_Some}
use Rattle.chain_arena.specs.Lists.{IsIn, without}
use Rattle.chain_arena.specs.Index.{walk, list_of, choose, backwards, Path, IsChain, IsSound}
use Rattle.chain_arena.specs.declared.index.Head.{Head}
use Rattle.chain_arena.proofs.ListLemmas.{last_of, last_in, first_in, first-backwards, backwards-around, in_append_left, in_append_right, in_append_cases, in_one, Place, place_of, without_in, without_gone}
use Rattle.chain_arena.proofs.PathLemmas.{Written, walk_is, path_at, chain_last, chain_frame, chain_push, chain_remove}

-- these heads and neighbours are sound, and are these lists
pub record Holds (head : ℕ → Head) (next previous : ℕ → Option ℕ) (room : ℕ) (lists : ℕ → List ℕ) : Type 0 where
  pub sound : IsSound head next previous room
  pub same : (n : ℕ) → list_of next (head n) ≡ lists n

-- one head is written
pub record Headed (old new : ℕ → Head) (k : ℕ) (head : Head) : Type 0 where
  pub here : new k ≡ head
  pub elsewhere : (n : ℕ) → (n ≡ k → ⊥) → new n ≡ old n

-- the lists with another under one number
abbrev pub replaced : (ℕ → List ℕ) → ℕ → List ℕ → ℕ → List ℕ
replaced lists k xs n = cond (n == k) xs (lists n)

pub replaced-here : (lists : ℕ → List ℕ) (k : ℕ) (xs : List ℕ) (n : ℕ) → n ≡ k → replaced lists k xs n ≡ xs
replaced-here lists k xs n e = ap (λ (b : Bool). cond b xs (lists n)) (eq-eqb n k e)

pub replaced-there : (lists : ℕ → List ℕ) (k : ℕ) (xs : List ℕ) (n : ℕ) → (n ≡ k → ⊥) → replaced lists k xs n ≡ lists n
replaced-there lists k xs n d = ap (λ (b : Bool). cond b xs (lists n)) (ne_eqb n k d)

-- what holds of the new list and of every other holds of all
pub by_number : (P : ℕ → List ℕ → Type 0) (lists : ℕ → List ℕ) (k : ℕ) (xs : List ℕ) → P k xs →
    ((n : ℕ) → (n ≡ k → ⊥) → P n (lists n)) → (n : ℕ) → P n (replaced lists k xs n)
by_number P lists k xs here there n = elim (cases_eq n k) [
  | inl e ↦ subst (λ (m : ℕ). P m (replaced lists k xs m)) (sym e) (subst (P k) (sym (replaced-here lists k xs k refl)) here)
  | inr d ↦ subst (P n) (sym (replaced-there lists k xs n d)) (there n d)
]

pub holds_from : (head : ℕ → Head) (next previous : ℕ → Option ℕ) (room : ℕ) (lists : ℕ → List ℕ) →
    ((n : ℕ) → IsChain next previous (head n).first (head n).last (lists n)) →
    ((n : ℕ) → length (lists n) ≡ (head n).len) →
    ((m n x : ℕ) → IsIn x (lists m) → IsIn x (lists n) → m ≡ n) →
    ((n x : ℕ) → IsIn x (lists n) → x < room) → Holds head next previous room lists
holds_from head next previous room lists chains lens apart in_range =
    let same : (n : ℕ) → list_of next (head n) ≡ lists n =
    (λ n. ap (λ (k : ℕ). walk next k (head n).first) (sym (lens n)) ∙ walk_is next (head n).first (lists n) (chains n).forward) in
    record {
      sound = record {
        chains = λ n. subst (IsChain next previous (head n).first (head n).last) (sym (same n)) (chains n);
        lens = λ n. ap length (same n) ∙ lens n;
        apart = λ m n x i j. apart m n x (subst (IsIn x) (same m) i) (subst (IsIn x) (same n) j);
        in_range = λ n x i. in_range n x (subst (IsIn x) (same n) i);
      };
      same = same;
    }

module _ (head : ℕ → Head) (next previous : ℕ → Option ℕ) (room : ℕ) (sound : IsSound head next previous room) (k index : ℕ)
    (new_head : ℕ → Head) (new_next new_previous : ℕ → Option ℕ) where
  abbrev pub lists : ℕ → List ℕ
  lists n = list_of next (head n)

  pub last_listed : (x : ℕ) → (head k).last ≡ Some x → IsIn x (lists k)
  last_listed x e = last_in (lists k) x (sym (chain_last next previous (head k).first (head k).last (lists k) (sound.chains k)) ∙ e)

  pub push_holds : (middle : ℕ → Option ℕ) → ((n : ℕ) → IsIn index (lists n) → ⊥) → index < room →
      Headed head new_head k (record { first = choose (head k).last (Some index) (head k).first; last = Some index; len = (head k).len + 1 }) →
      Written next middle (Some index) None → Written middle new_next (head k).last (Some index) →
      Written previous new_previous (Some index) (head k).last →
      Holds new_head new_next new_previous room (replaced lists k (lists k ++ index ∷ []))
  push_holds middle unlisted within headed none some back =
      let pushed : Head = record { first = choose (head k).last (Some index) (head k).first; last = Some index; len = (head k).len + 1 } in
      let not_index : (n x : ℕ) → IsIn x (lists n) → Some index ≡ Some x → ⊥ =
      (λ n x i e. unlisted n (subst (λ (z : ℕ). IsIn z (lists n)) (sym (same_Some index x e)) i)) in
      let was : (x n : ℕ) → IsIn x (replaced lists k (lists k ++ index ∷ []) n) → ((x ≡ index) × (n ≡ k)) ⊎ IsIn x (lists n) =
      (λ x. by_number (λ n zs. IsIn x zs → ((x ≡ index) × (n ≡ k)) ⊎ IsIn x (lists n)) lists k (lists k ++ index ∷ [])
      (λ i. elim (in_append_cases x (lists k) (index ∷ []) i) [ inl old ↦ inr old | inr new ↦ inl (in_one x index new, refl) ])
      (λ n d i. inr i)) in
      holds_from new_head new_next new_previous room (replaced lists k (lists k ++ index ∷ []))
      (by_number (λ n zs. IsChain new_next new_previous (new_head n).first (new_head n).last zs) lists k (lists k ++ index ∷ [])
      (subst (λ (h : Head). IsChain new_next new_previous h.first h.last (lists k ++ index ∷ [])) (sym headed.here)
      (chain_push next previous (head k).first (head k).last (lists k) (sound.chains k) middle new_next new_previous index
      (unlisted k) none some back))
      (λ n d. subst (λ (h : Head). IsChain new_next new_previous h.first h.last (lists n)) (sym (headed.elsewhere n d))
      (chain_frame next previous (head n).first (head n).last (lists n) (sound.chains n) new_next new_previous
      (λ x i. some.elsewhere x (λ e. d (sound.apart n k x i (last_listed x e))) ∙ none.elsewhere x (not_index n x i))
      (λ x i. back.elsewhere x (not_index n x i)))))
      (by_number (λ n zs. length zs ≡ (new_head n).len) lists k (lists k ++ index ∷ [])
      (omega (arith, length-append (lists k) (index ∷ []), sound.lens k, ap (λ (h : Head). h.len) headed.here))
      (λ n d. sound.lens n ∙ ap (λ (h : Head). h.len) (sym (headed.elsewhere n d))))
      (λ m n x i j. elim (was x m i) [
        | inl new ↦ elim (was x n j) [
          | inl again ↦ new.1 ∙ sym again.1
          | inr old ↦ absurd (unlisted n (subst (λ (z : ℕ). IsIn z (lists n)) new.0 old))
        ]
        | inr old ↦ elim (was x n j) [
          | inl new ↦ absurd (unlisted m (subst (λ (z : ℕ). IsIn z (lists m)) new.0 old))
          | inr other ↦ sound.apart m n x old other
        ]
      ])
      (λ n x i. elim (was x n i) [
        | inl new ↦ subst (λ (z : ℕ). z < room) (sym new.0) within
        | inr old ↦ sound.in_range n x old
      ])

  module _ (listed : IsIn index (lists k)) where
    -- its neighbours stand in its list
    pub before_listed : (x : ℕ) → previous index ≡ Some x → IsIn x (lists k)
    before_listed x e =
        let place : Place index (lists k) = place_of index (lists k) listed in
        let chain : IsChain next previous (head k).first (head k).last (lists k) = sound.chains k in
        let backward = subst (Path previous (head k).last) (ap backwards place.splits ∙ backwards-around place.before place.behind index) chain.backward in
        let is : previous index ≡ last_of place.before =
        path_at previous (head k).last (backwards place.behind) (backwards place.before) index backward ∙ first-backwards place.before in
        subst (IsIn x) (sym place.splits) (in_append_left x place.before (index ∷ place.behind) (last_in place.before x (sym is ∙ e)))

    pub behind_listed : (x : ℕ) → next index ≡ Some x → IsIn x (lists k)
    behind_listed x e =
        let place : Place index (lists k) = place_of index (lists k) listed in
        let chain : IsChain next previous (head k).first (head k).last (lists k) = sound.chains k in
        let is = path_at next (head k).first place.before place.behind index (subst (Path next (head k).first) place.splits chain.forward) in
        subst (IsIn x) (sym place.splits) (in_append_right x place.before (index ∷ place.behind) (inr (first_in place.behind x (sym is ∙ e))))

    pub remove_holds : Headed head new_head k (record { first = choose (previous index) (next index) (head k).first; last = choose (next index) (previous index) (head k).last; len = (head k).len - 1 }) →
        Written next new_next (previous index) (next index) → Written previous new_previous (next index) (previous index) →
        Holds new_head new_next new_previous room (replaced lists k (without index (lists k)))
    remove_holds headed there back =
        let place : Place index (lists k) = place_of index (lists k) listed in
        let was : (x n : ℕ) → IsIn x (replaced lists k (without index (lists k)) n) → IsIn x (lists n) =
        (λ x. by_number (λ n zs. IsIn x zs → IsIn x (lists n)) lists k (without index (lists k))
        (λ i. without_in index x (lists k) i) (λ n d i. i)) in
        holds_from new_head new_next new_previous room (replaced lists k (without index (lists k)))
        (by_number (λ n zs. IsChain new_next new_previous (new_head n).first (new_head n).last zs) lists k (without index (lists k))
        (subst (λ (h : Head). IsChain new_next new_previous h.first h.last (without index (lists k))) (sym headed.here)
        (subst (IsChain new_next new_previous (choose (previous index) (next index) (head k).first) (choose (next index) (previous index) (head k).last))
        (sym place.taken_out)
        (chain_remove next previous (head k).first (head k).last (lists k) (sound.chains k) new_next new_previous
        place.before place.behind index place.splits there back)))
        (λ n d. subst (λ (h : Head). IsChain new_next new_previous h.first h.last (lists n)) (sym (headed.elsewhere n d))
        (chain_frame next previous (head n).first (head n).last (lists n) (sound.chains n) new_next new_previous
        (λ x i. there.elsewhere x (λ e. d (sound.apart n k x i (before_listed x e))))
        (λ x i. back.elsewhere x (λ e. d (sound.apart n k x i (behind_listed x e)))))))
        (by_number (λ n zs. length zs ≡ (new_head n).len) lists k (without index (lists k))
        (omega (
          arith,
          ap length place.taken_out,
          ap length place.splits,
          length-append place.before place.behind,
          length-append place.before (index ∷ place.behind),
          sound.lens k,
          ap (λ (h : Head). h.len) headed.here,
        ))
        (λ n d. sound.lens n ∙ ap (λ (h : Head). h.len) (sym (headed.elsewhere n d))))
        (λ m n x i j. sound.apart m n x (was x m i) (was x n j))
        (λ n x i. sound.in_range n x (was x n i))

    -- it stands in no list any more
    pub removed_unlisted : (n : ℕ) → IsIn index (replaced lists k (without index (lists k)) n) → ⊥
    removed_unlisted =
        by_number (λ n zs. IsIn index zs → ⊥) lists k (without index (lists k))
        (without_gone index (lists k) (sound.chains k).distinct) (λ n d i. d (sound.apart n k index i listed))
