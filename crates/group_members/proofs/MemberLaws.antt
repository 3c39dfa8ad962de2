-- The first folder that has a member.
use Rattle.std.proofs.Common.{◌≡◌, ◌∙◌, ℕ, ◌+◌, ◌<◌, ◌≤◌, true, false, List, ◌∷◌, length, drop, get_or, Option, Some, None, refl, sym, ap, true≢false, slice_get}
use Rattle.std.specs.Prelude.{filter_map, is_some}
use Rattle.std.specs.List.{cons_option}
use Rattle.std.specs.Option.{option_map}
use Rattle.std.proofs.lemmas.List.{drop_more}
use Rattle.std.proofs.Math.ListN.{drop_of_length-le}
use Rattle.hl_base.specs.declared.place.PathId.{PathId}
use Rattle.document_store.specs.Store.{Store}
use Rattle.group_members.specs.Members.{member_number, first_number}

-- the folders that are left, from the next one on
folders_left : (folders : List (List ℕ)) (i : ℕ) (folder : List ℕ) → i < length folders → folder ≡ get_or folders i folder → drop i folders ≡ folder ∷ drop (i + 1) folders
folders_left folders i folder more is_next = drop_more folders i folder more ∙ ap (λ f. f ∷ drop (i + 1) folders) (sym is_next)

module _ (store : Store) (folders : List (List ℕ)) (i : ℕ) (folder name : List ℕ) (found : Option PathId) (more : i < length folders) (is_next : folder ≡ get_or folders i folder)
    (here : option_map (λ (path : PathId). path.0) found ≡ member_number store folder name) where
  left : first_number store (drop i folders) name
      ≡ slice_get (cons_option (option_map (λ (path : PathId). path.0) found) (filter_map (λ f. member_number store f name) (drop (i + 1) folders))) 0
  left =
      ap (λ fs. first_number store fs name) (folders_left folders i folder more is_next)
      ∙ ap (λ o. slice_get (cons_option o (filter_map (λ f. member_number store f name) (drop (i + 1) folders))) 0) (sym here)

  -- the next folder has the member
  pub first_number-first : is_some found ≡ true → option_map (λ (path : PathId). path.0) found ≡ first_number store (drop i folders) name
  first_number-first some = by found some ∙ sym left
    where
      by : (o : Option PathId) → is_some o ≡ true →
          option_map (λ (path : PathId). path.0) o ≡ slice_get (cons_option (option_map (λ (path : PathId). path.0) o) (filter_map (λ f. member_number store f name) (drop (i + 1) folders))) 0
      by None none = absurd (true≢false (sym none))
      by (Some path) some = refl

  -- it has not
  pub first_number-later : is_some found ≡ false → first_number store (drop (i + 1) folders) name ≡ first_number store (drop i folders) name
  first_number-later none = sym (left ∙ by found none)
    where
      by : (o : Option PathId) → is_some o ≡ false →
          slice_get (cons_option (option_map (λ (path : PathId). path.0) o) (filter_map (λ f. member_number store f name) (drop (i + 1) folders))) 0
          ≡ slice_get (filter_map (λ f. member_number store f name) (drop (i + 1) folders)) 0
      by None none = refl
      by (Some path) some = absurd (true≢false some)

-- no folder is left
pub first_number-past : (store : Store) (folders : List (List ℕ)) (i : ℕ) (name : List ℕ) → length folders ≤ i → first_number store (drop i folders) name ≡ None
first_number-past store folders i name past = ap (λ fs. first_number store fs name) (drop_of_length-le folders past)
