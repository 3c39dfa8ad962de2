-- The lists of one side keep the live links when a link is added or taken out.
use Rattle.std.proofs.Common.{◌≡◌, ◌≢◌, inl, inr, ℕ, List, [], ◌∷◌, ◌++◌, Option, Some, None, IsSome, IfSome, refl, sym, ap, subst, ◌∙◌}
use Rattle.std.specs.Prelude.{slice_index_or}
use Rattle.std.proofs.lemmas.Bool.{cases_eq}
use Rattle.std.proofs.lemmas.Option.{same_Some}
use Rattle.slab.specs.Slab.{Slab, get, Updates, SameValues}
use Rattle.chain_arena.specs.Lists.{list_at, IsIn, after, without, SameLists, Changes}
use Rattle.chain_arena.specs.Chains.{HasLinks}
use Rattle.chain_arena.specs.declared.link.Link.{Link}
use Rattle.chain_arena.proofs.ListLemmas.{in_append_cases, in_append_left, in_append_right, in_one, first_in, after-here, after-there, without_in, without_other, without-there}

pub after_in : (x y : ℕ) (xs : List ℕ) → after x xs ≡ Some y → IsIn y xs
after_in x y [] e = absurd (cc)
after_in x y (z ∷ zs) e = elim (cases_eq x z) [
  | inl same ↦ inr (first_in zs y (sym (after-here x z zs same) ∙ e))
  | inr differ ↦ inr (after_in x y zs (sym (after-there x z zs differ) ∙ e))
]

pub without_absent : (x : ℕ) (xs : List ℕ) → (IsIn x xs → ⊥) → without x xs ≡ xs
without_absent x [] n = refl
without_absent x (y ∷ ys) n =
    without-there x y ys (λ e. n (inl e)) ∙ ap (λ (zs : List ℕ). y ∷ zs) (without_absent x ys (λ i. n (inr i)))

pub value_of : {X : Type 0} (o : Option X) → IsSome o → (x : X) × (o ≡ Some x)
value_of None is = absurd (cc)
value_of (Some x) is = (x, refl)

pub at_some : {X : Type 0} (o : Option X) (x : X) (P : X → Type 0) → o ≡ Some x → IfSome o P → P x
at_some {X = X} o x P e holds = subst (λ (p : Option X). IfSome p P) e holds

pub if_some : {X : Type 0} (o : Option X) (x : X) (P : X → Type 0) → o ≡ Some x → P x → IfSome o P
if_some {X = X} o x P e holds = subst (λ (p : Option X). IfSome p P) (sym e) holds

pub none_is_some : {X : Type 0} (o : Option X) (x : X) → o ≡ None → o ≡ Some x → ⊥
none_is_some o x none some = cc

module _ {T : Type 0} where
  pub HasLinks-empty : (links : Slab (Link T)) (side : Link T → ℕ) (lists : List (List ℕ)) → links.slots ≡ [] → SameLists [] lists →
      HasLinks links side lists
  HasLinks-empty links side lists none same = record {
    live = λ n id i. absurd (subst (IsIn id) (same n) i);
    listed = λ id link e. absurd (none_is_some (get links id) link (ap (λ (slots : List (Option (Link T))). slice_index_or slots id None) none) e);
  }

  pub HasLinks-same : (links more : Slab (Link T)) (side : Link T → ℕ) (lists later : List (List ℕ)) → SameValues links more →
      SameLists lists later → HasLinks links side lists → HasLinks more side later
  HasLinks-same links more side lists later values same has = record {
    live = λ n id i.
        let was = has.live n id (subst (IsIn id) (same n) i) in
        (was.0, values id ∙ was.1, was.2);
    listed = λ id link e. subst (IsIn id) (sym (same (side link))) (has.listed id link (sym (values id) ∙ e));
  }

  -- a number that is free stands in no list
  pub HasLinks-free : (links : Slab (Link T)) (side : Link T → ℕ) (lists : List (List ℕ)) (id : ℕ) → HasLinks links side lists →
      get links id ≡ None → (n : ℕ) → IsIn id (list_at lists n) → ⊥
  HasLinks-free links side lists id has free n i =
      let was = has.live n id i in
      none_is_some (get links id) was.0 free was.1

  -- a link stands in the list of its own number alone
  pub HasLinks-elsewhere : (links : Slab (Link T)) (side : Link T → ℕ) (lists : List (List ℕ)) (id : ℕ) (link : Link T) →
      HasLinks links side lists → get links id ≡ Some link → (n : ℕ) → n ≢ side link → IsIn id (list_at lists n) → ⊥
  HasLinks-elsewhere links side lists id link has found n differ i =
      let was = has.live n id i in
      differ (sym was.2 ∙ ap side (same_Some was.0 link (sym was.1 ∙ found)))

  pub HasLinks-added : (links more : Slab (Link T)) (side : Link T → ℕ) (lists later : List (List ℕ)) (id : ℕ) (link : Link T) →
      HasLinks links side lists → get links id ≡ None → Updates links more id (Some link) →
      Changes lists later (side link) (list_at lists (side link) ++ id ∷ []) → HasLinks more side later
  HasLinks-added links more side lists later id link has free updates changes =
      let old : (n x : ℕ) → IsIn x (list_at lists n) → (other : Link T) × (get more x ≡ Some other) × (side other ≡ n) =
      (λ n x i.
      let was = has.live n x i in
      let differ : x ≢ id = (λ e. none_is_some (get links id) was.0 free (ap (get links) (sym e) ∙ was.1)) in
      (was.0, updates.others x differ ∙ was.1, was.2)) in
      record {
        live = λ n x i. elim (cases_eq n (side link)) [
          | inl e ↦ elim (in_append_cases x (list_at lists (side link)) (id ∷ []) (subst (IsIn x) (ap (list_at later) e ∙ changes.changed) i)) [
            | inl before ↦
                let was = old (side link) x before in
                (was.0, was.1, was.2 ∙ sym e)
            | inr last ↦ (link, ap (get more) (in_one x id last) ∙ updates.changed, sym e)
          ]
          | inr d ↦ old n x (subst (IsIn x) (changes.others n d) i)
        ];
        listed = λ x other found. elim (cases_eq x id) [
          | inl e ↦
              let is : link ≡ other = same_Some link other (sym updates.changed ∙ ap (get more) (sym e) ∙ found) in
              subst (λ (l : Link T). IsIn x (list_at later (side l))) is
              (subst (IsIn x) (sym changes.changed) (in_append_right x (list_at lists (side link)) (id ∷ []) (inl e)))
          | inr d ↦
              let was : IsIn x (list_at lists (side other)) = has.listed x other (sym (updates.others x d) ∙ found) in
              elim (cases_eq (side other) (side link)) [
                | inl e ↦ subst (λ (n : ℕ). IsIn x (list_at later n)) (sym e) (subst (IsIn x) (sym changes.changed)
                    (in_append_left x (list_at lists (side link)) (id ∷ []) (subst (λ (n : ℕ). IsIn x (list_at lists n)) e was)))
                | inr n ↦ subst (IsIn x) (sym (changes.others (side other) n)) was
              ]
        ];
      }

  pub HasLinks-unlinked : (links more : Slab (Link T)) (side : Link T → ℕ) (lists later : List (List ℕ)) (id : ℕ) (link : Link T) →
      HasLinks links side lists → Updates links more id None → Changes lists later (side link) (without id (list_at lists (side link))) →
      ((n : ℕ) → IsIn id (list_at later n) → ⊥) → HasLinks more side later
  HasLinks-unlinked links more side lists later id link has updates changes gone = record {
    live = λ n x i.
        let differ : x ≢ id = (λ e. gone n (subst (λ (y : ℕ). IsIn y (list_at later n)) e i)) in
        let before : IsIn x (list_at lists n) = elim (cases_eq n (side link)) [
          | inl e ↦ subst (λ (m : ℕ). IsIn x (list_at lists m)) (sym e)
              (without_in id x (list_at lists (side link)) (subst (IsIn x) (ap (list_at later) e ∙ changes.changed) i))
          | inr d ↦ subst (IsIn x) (changes.others n d) i
        ] in
        let was = has.live n x before in
        (was.0, updates.others x differ ∙ was.1, was.2);
    listed = λ x other found.
        let differ : x ≢ id = (λ e. none_is_some (get more id) other updates.changed (ap (get more) (sym e) ∙ found)) in
        let was : IsIn x (list_at lists (side other)) = has.listed x other (sym (updates.others x differ) ∙ found) in
        elim (cases_eq (side other) (side link)) [
          | inl e ↦ subst (λ (n : ℕ). IsIn x (list_at later n)) (sym e) (subst (IsIn x) (sym changes.changed)
              (without_other id x (list_at lists (side link)) (subst (λ (n : ℕ). IsIn x (list_at lists n)) e was) differ))
          | inr n ↦ subst (IsIn x) (sym (changes.others (side other) n)) was
        ];
  }
