-- A list that leads from each to the next, and how writes of one neighbour change it.
use Rattle.std.proofs.Common.{◌≡◌, inl, inr, ℕ, suc, List, [], ◌∷◌, ◌++◌, Option, Some, None, length, refl, sym, ap, subst, ◌∙◌}
use Rattle.std.proofs.lemmas.List.{append-nil}
use Rattle.std.proofs.lemmas.Bool.{cases_eq}
use Rattle.std.proofs.lemmas.Option.{same_Some}
use Rattle.chain_arena.specs.Lists.{IsIn, first_of, after}
use Rattle.chain_arena.specs.Index.{walk, choose, backwards, IsDistinct, Path, IsChain}
use Rattle.chain_arena.proofs.ListLemmas.{last_of, last_in, backwards-around, backwards-append, in_backwards, first-backwards, last-backwards, distinct_front, distinct_apart, distinct_backwards, distinct_without, distinct_snoc, after-here, after-there}

-- one neighbour is written, if there is an index to write at
pub record Written (old new : ℕ → Option ℕ) (from to : Option ℕ) : Type 0 where
  pub here : (x : ℕ) → from ≡ Some x → new x ≡ to
  pub elsewhere : (x : ℕ) → (from ≡ Some x → ⊥) → new x ≡ old x

pub path_start : (next : ℕ → Option ℕ) (start : Option ℕ) (xs : List ℕ) → Path next start xs → start ≡ first_of xs
path_start next start [] p = p
path_start next start (x ∷ xs) p = p.0

pub path_frame : (next new : ℕ → Option ℕ) (start : Option ℕ) (xs : List ℕ) → ((x : ℕ) → IsIn x xs → new x ≡ next x) →
    Path next start xs → Path new start xs
path_frame next new start [] same p = p
path_frame next new start (x ∷ xs) same p = (
  p.0,
  subst (λ (o : Option ℕ). Path new o xs) (sym (same x (inl refl)))
      (path_frame next new (next x) xs (λ y i. same y (inr i)) p.1),
)

pub path_rest : (next : ℕ → Option ℕ) (start : Option ℕ) (before behind : List ℕ) (x : ℕ) →
    Path next start (before ++ x ∷ behind) → Path next (next x) behind
path_rest next start [] behind x p = p.1
path_rest next start (y ∷ before) behind x p = path_rest next (next y) before behind x p.1

pub path_at : (next : ℕ → Option ℕ) (start : Option ℕ) (before behind : List ℕ) (x : ℕ) →
    Path next start (before ++ x ∷ behind) → next x ≡ first_of behind
path_at next start before behind x p = path_start next (next x) behind (path_rest next start before behind x p)

pub path_after : (next : ℕ → Option ℕ) (start : Option ℕ) (xs : List ℕ) (x : ℕ) → Path next start xs → IsDistinct xs →
    IsIn x xs → next x ≡ after x xs
path_after next start [] x p d i = absurd i
path_after next start (y ∷ ys) x p d i = elim (cases_eq x y) [
  | inl e ↦ ap next e ∙ path_start next (next y) ys p.1 ∙ sym (after-here x y ys e)
  | inr n ↦
      let there : IsIn x ys = elim i [ inl e ↦ absurd (n e) | inr j ↦ j ] in
      path_after next (next y) ys x p.1 d.1 there ∙ sym (after-there x y ys n)
]

pub walk_is : (next : ℕ → Option ℕ) (start : Option ℕ) (xs : List ℕ) → Path next start xs → walk next (length xs) start ≡ xs
unfolding walk
walk_is next start [] p = refl
walk_is next start (x ∷ xs) p =
    ap (walk next (suc (length xs))) p.0 ∙ ap (λ (zs : List ℕ). x ∷ zs) (walk_is next (next x) xs p.1)

-- from the last of a front on, the path leads elsewhere
pub bridge : (next new : ℕ → Option ℕ) (start target : Option ℕ) (x : ℕ) (before tail behind : List ℕ) →
    IsDistinct (x ∷ before) → Path next start ((x ∷ before) ++ tail) →
    ((y : ℕ) → IsIn y (x ∷ before) → (last_of (x ∷ before) ≡ Some y → ⊥) → new y ≡ next y) →
    ((y : ℕ) → last_of (x ∷ before) ≡ Some y → new y ≡ target) →
    Path new target behind → Path new start ((x ∷ before) ++ behind)
bridge next new start target x [] tail behind d p same last rest =
    (p.0, subst (λ (o : Option ℕ). Path new o behind) (sym (last x refl)) rest)
bridge next new start target x (y ∷ before) tail behind d p same last rest =
    let kept : new x ≡ next x = same x (inl refl) (λ e. d.0 (last_in (y ∷ before) x e)) in (
      p.0,
      subst (λ (o : Option ℕ). Path new o ((y ∷ before) ++ behind)) (sym kept)
          (bridge next new (next x) target y before tail behind d.1 p.1 (λ z i n. same z (inr i) n) last rest),
    )

choose_last : (x : ℕ) (xs : List ℕ) (given was : Option ℕ) → choose (last_of (x ∷ xs)) given was ≡ was
choose_last x [] given was = refl
choose_last x (y ∷ ys) given was = choose_last y ys given was

-- one of its middle is passed over
pub path_remove : (next new : ℕ → Option ℕ) (start : Option ℕ) (before behind : List ℕ) (x : ℕ) →
    IsDistinct (before ++ x ∷ behind) → Path next start (before ++ x ∷ behind) →
    Written next new (last_of before) (next x) → Path new (choose (last_of before) (next x) start) (before ++ behind)
path_remove next new start [] behind x d p w =
    path_frame next new (next x) behind (λ y i. w.elsewhere y (λ e. none_some y e)) p.1
  where
    none_some : (y : ℕ) → None ≡ Some y → ⊥
    none_some y e = cc
path_remove next new start (z ∷ before) behind x d p w =
    let rest : Path new (next x) behind =
    path_frame next new (next x) behind
    (λ y i. w.elsewhere y (λ e. distinct_apart y (z ∷ before) (x ∷ behind) d (last_in (z ∷ before) y e) (inr i)))
    (path_rest next start (z ∷ before) behind x p) in
    subst (λ (o : Option ℕ). Path new o ((z ∷ before) ++ behind)) (sym (choose_last z before (next x) start))
    (bridge next new start (next x) z before (x ∷ behind) behind (distinct_front (z ∷ before) (x ∷ behind) d) p
    (λ y i n. w.elsewhere y n) (λ y e. w.here y e) rest)

module _ (next previous : ℕ → Option ℕ) (first last : Option ℕ) (xs : List ℕ) (chain : IsChain next previous first last xs) where
  pub chain_first : first ≡ first_of xs
  chain_first = path_start next first xs chain.forward

  pub chain_last : last ≡ last_of xs
  chain_last = path_start previous last (backwards xs) chain.backward ∙ first-backwards xs

  -- writes at others leave it
  pub chain_frame : (new_next new_previous : ℕ → Option ℕ) → ((x : ℕ) → IsIn x xs → new_next x ≡ next x) →
      ((x : ℕ) → IsIn x xs → new_previous x ≡ previous x) → IsChain new_next new_previous first last xs
  chain_frame new_next new_previous forward backward = record {
    forward = path_frame next new_next first xs forward chain.forward;
    backward = path_frame previous new_previous last (backwards xs) (λ x i. backward x (in_backwards x xs i)) chain.backward;
    distinct = chain.distinct;
  }

  -- a number that is not in it comes last
  pub chain_push : (middle new_next new_previous : ℕ → Option ℕ) (index : ℕ) → (IsIn index xs → ⊥) →
      Written next middle (Some index) None → Written middle new_next last (Some index) →
      Written previous new_previous (Some index) last →
      IsChain new_next new_previous (choose last (Some index) first) (Some index) (xs ++ index ∷ [])
  chain_push middle new_next new_previous index new none some back = record {
    forward = forward xs refl;
    backward = subst (Path new_previous (Some index)) (sym (backwards-append xs (index ∷ []))) (
      refl,
      subst (λ (o : Option ℕ). Path new_previous o (backwards xs)) (sym (back.here index refl))
          (path_frame previous new_previous last (backwards xs)
          (λ x i. back.elsewhere x (λ e. new (subst (λ (z : ℕ). IsIn z xs) (sym (same_Some index x e)) (in_backwards x xs i))))
          chain.backward),
    );
    distinct = distinct_snoc xs index chain.distinct new;
  }
    where
      ends : new_next index ≡ None
      ends = some.elsewhere index (λ e. new (last_in xs index (sym chain_last ∙ e))) ∙ none.here index refl

      forward : (ys : List ℕ) → xs ≡ ys → Path new_next (choose last (Some index) first) (xs ++ index ∷ [])
      forward [] e =
          let empty : last ≡ None = chain_last ∙ ap last_of e in
          subst (λ (o : Option ℕ). Path new_next (choose o (Some index) first) (xs ++ index ∷ [])) (sym empty)
          (subst (λ (zs : List ℕ). Path new_next (Some index) (zs ++ index ∷ [])) (sym e) (refl, ends))
      forward (y ∷ ys) e =
          let is : last ≡ last_of (y ∷ ys) = chain_last ∙ ap last_of e in
          let start : choose last (Some index) first ≡ first = ap (λ o. choose o (Some index) first) is ∙ choose_last y ys (Some index) first in
          let old : Path next first ((y ∷ ys) ++ []) =
          subst (Path next first) (e ∙ sym (append-nil (y ∷ ys))) chain.forward in
          subst (λ (o : Option ℕ). Path new_next o (xs ++ index ∷ [])) (sym start)
          (subst (λ (zs : List ℕ). Path new_next first (zs ++ index ∷ [])) (sym e)
          (bridge next new_next first (Some index) y ys [] (index ∷ []) (subst IsDistinct e chain.distinct) old
          (λ z i n. some.elsewhere z (λ f. n (sym is ∙ f))
          ∙ none.elsewhere z (λ f. new (subst (λ (w : ℕ). IsIn w xs) (sym (same_Some index z f)) (subst (IsIn z) (sym e) i))))
          (λ z f. some.here z (is ∙ f)) (refl, ends)))

  -- one of it is taken out
  pub chain_remove : (new_next new_previous : ℕ → Option ℕ) (before behind : List ℕ) (x : ℕ) → xs ≡ before ++ x ∷ behind →
      Written next new_next (previous x) (next x) → Written previous new_previous (next x) (previous x) →
      IsChain new_next new_previous (choose (previous x) (next x) first) (choose (next x) (previous x) last) (before ++ behind)
  chain_remove new_next new_previous before behind x splits there back =
      let back_is : backwards xs ≡ backwards behind ++ x ∷ backwards before = ap backwards splits ∙ backwards-around before behind x in
      let distinct : IsDistinct (before ++ x ∷ behind) = subst IsDistinct splits chain.distinct in
      let forward : Path next first (before ++ x ∷ behind) = subst (Path next first) splits chain.forward in
      let backward : Path previous last (backwards behind ++ x ∷ backwards before) = subst (Path previous last) back_is chain.backward in
      let before_is : previous x ≡ last_of before = path_at previous last (backwards behind) (backwards before) x backward ∙ first-backwards before in
      let behind_is : next x ≡ last_of (backwards behind) = path_at next first before behind x forward ∙ sym (last-backwards behind) in
      record {
        forward = subst (λ (o : Option ℕ). Path new_next (choose o (next x) first) (before ++ behind)) (sym before_is)
            (path_remove next new_next first before behind x distinct forward
            (subst (λ (o : Option ℕ). Written next new_next o (next x)) before_is there));
        backward = subst (λ (zs : List ℕ). Path new_previous (choose (next x) (previous x) last) zs) (sym (backwards-append before behind))
            (subst (λ (o : Option ℕ). Path new_previous (choose o (previous x) last) (backwards behind ++ backwards before)) (sym behind_is)
            (path_remove previous new_previous last (backwards behind) (backwards before) x
            (subst IsDistinct back_is (distinct_backwards xs chain.distinct)) backward
            (subst (λ (o : Option ℕ). Written previous new_previous o (previous x)) behind_is back)));
        distinct = distinct_without before behind x distinct;
      }
