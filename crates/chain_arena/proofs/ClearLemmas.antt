-- One link of a right number after the other is taken out.
use Rattle.std.proofs.Common.{◌≡◌, ◌≢◌, inl, inr, ℕ, List, [], ◌∷◌, ◌++◌, Some, None, refl, sym, ap, subst, ◌∙◌, append_assoc}
use Rattle.std.proofs.lemmas.List.{append-nil}
use Rattle.std.proofs.lemmas.Bool.{cases_eq}
use Rattle.std.proofs.lemmas.Option.{same_Some}
use Rattle.slab.specs.Slab.{get}
use Rattle.chain_arena.specs.Lists.{list_at, IsIn, first_of, without, without_all}
use Rattle.chain_arena.specs.Chains.{Chains, IsUnlinked, IsCleared}
use Rattle.chain_arena.specs.declared.link.Link.{Link}
use Rattle.chain_arena.proofs.ListLemmas.{in_append_cases, in_append_left, in_append_right, in_one, without-here}

-- the list begins with its first
first_splits : (xs : List ℕ) (x : ℕ) → Some x ≡ first_of xs → xs ≡ x ∷ without x xs
first_splits [] x e = absurd (cc)
first_splits (y ∷ ys) x e =
    let is : x ≡ y = same_Some x y e in
    ap (λ (z : ℕ). z ∷ ys) (sym is) ∙ ap (λ (zs : List ℕ). x ∷ zs) (sym (without-here x y ys is))

without_all-snoc : (gone : List ℕ) (x : ℕ) (xs : List ℕ) → without_all (gone ++ x ∷ []) xs ≡ without x (without_all gone xs)
without_all-snoc [] x xs = refl
without_all-snoc (y ∷ gone) x xs = without_all-snoc gone x (without y xs)

module _ {T : Type 0} where
  -- these links were taken out so far, in this order
  pub record Clearing (old new : Chains T) (right : ℕ) : Type 0 where
    pub taken : List ℕ
    pub splits : list_at old.rights right ≡ taken ++ list_at new.rights right
    pub links_gone : (id : ℕ) → IsIn id taken → get new.links id ≡ None
    pub links_kept : (id : ℕ) → (IsIn id taken → ⊥) → get new.links id ≡ get old.links id
    pub others : (m : ℕ) → m ≢ right → list_at new.rights m ≡ list_at old.rights m
    pub left_lists : (n : ℕ) → list_at new.lefts n ≡ without_all taken (list_at old.lefts n)

  pub Clearing-start : (chains : Chains T) (right : ℕ) → Clearing chains chains right
  Clearing-start chains right = record {
    taken = [];
    splits = refl;
    links_gone = λ id i. absurd i;
    links_kept = λ id n. refl;
    others = λ m d. refl;
    left_lists = λ n. refl;
  }

  -- one link more is taken out
  pub Clearing-step : (old now new : Chains T) (right id : ℕ) (link : Link T) → Clearing old now right →
      Some id ≡ first_of (list_at now.rights right) → link.right ≡ right → IsUnlinked now new id link →
      ((n : ℕ) → n ≢ link.left → without id (list_at now.lefts n) ≡ list_at now.lefts n) → Clearing old new right
  Clearing-step old now new right id link clearing first is unlinked elsewhere =
      let rest : list_at new.rights right ≡ without id (list_at now.rights right) =
      subst (λ (r : ℕ). list_at new.rights r ≡ without id (list_at now.rights r)) is unlinked.rights.changed in
      record {
        taken = clearing.taken ++ id ∷ [];
        splits = clearing.splits ∙ ap (λ (zs : List ℕ). clearing.taken ++ zs) (first_splits _ id first ∙ ap (λ (zs : List ℕ). id ∷ zs) (sym rest))
            ∙ sym (append_assoc clearing.taken (id ∷ []) (list_at new.rights right));
        links_gone = λ x i. elim (cases_eq x id) [
          | inl e ↦ ap (get new.links) e ∙ unlinked.links.changed
          | inr d ↦ unlinked.links.others x d ∙ clearing.links_gone x
              (elim (in_append_cases x clearing.taken (id ∷ []) i) [ inl before ↦ before | inr last ↦ absurd (d (in_one x id last)) ])
        ];
        links_kept = λ x n.
            unlinked.links.others x (λ e. n (in_append_right x clearing.taken (id ∷ []) (inl e)))
            ∙ clearing.links_kept x (λ i. n (in_append_left x clearing.taken (id ∷ []) i));
        others = λ m d. unlinked.rights.others m (λ e. d (e ∙ is)) ∙ clearing.others m d;
        left_lists = λ n.
            (elim (cases_eq n link.left) [
              | inl e ↦ ap (list_at new.lefts) e ∙ unlinked.lefts.changed ∙ ap (λ (m : ℕ). without id (list_at now.lefts m)) (sym e)
              | inr d ↦ unlinked.lefts.others n d ∙ sym (elsewhere n d)
            ]) ∙ ap (without id) (clearing.left_lists n) ∙ sym (without_all-snoc clearing.taken id (list_at old.lefts n));
      }

  -- nothing is left in the list
  pub Clearing-end : (old new : Chains T) (right : ℕ) → Clearing old new right → first_of (list_at new.rights right) ≡ None →
      IsCleared old new right
  Clearing-end old new right clearing none =
      let empty : list_at new.rights right ≡ [] = none_left _ none in
      let all : list_at old.rights right ≡ clearing.taken =
      clearing.splits ∙ ap (λ (zs : List ℕ). clearing.taken ++ zs) empty ∙ append-nil clearing.taken in
      record {
        gone = λ id i. clearing.links_gone id (subst (IsIn id) all i);
        kept = λ id n. clearing.links_kept id (λ i. n (subst (IsIn id) (sym all) i));
        rights = record { changed = empty; others = clearing.others };
        lefts = λ n. clearing.left_lists n ∙ ap (λ (zs : List ℕ). without_all zs (list_at old.lefts n)) (sym all);
      }
    where
      none_left : (xs : List ℕ) → first_of xs ≡ None → xs ≡ []
      none_left [] e = refl
      none_left (x ∷ xs) e = absurd (cc)
