-- The member of a name depends on what is present in the folders alone.
use Rattle.std.proofs.Common.{◌≡◌, ◌∙◌, ℕ, Bool, true, false, cond, ◌&&◌, List, [], ◌∷◌, ◌++◌, get_or, Option, Some, None, refl, sym, ap, subst, slice_get, append-nil, zero, suc}
use Rattle.std.specs.Prelude.{filter, filter_map, find, is_some}
use Rattle.std.specs.List.{AllByRecursion, list_any, cons_option}
use Rattle.std.specs.Option.{option_and_then}
use Rattle.std.specs.Str.{bytes_eq}
use Rattle.std.proofs.lemmas.Bool.{true≢false}
use Rattle.std.proofs.lemmas.List.Elements.{filter-append, recursion_from_All}
use Rattle.std.proofs.lemmas.List.Folds.{list_any-from_Any}
use Rattle.std.proofs.lemmas.List.Quantifiers.{position-Some}
use Rattle.std.proofs.lemmas.Option.{none-some, slice_get-get_or}
use Rattle.std.proofs.lemmas.Slice.Eq.{bytes_eq-Decides}
use Rattle.member_paths.specs.Paths.{folder_of, file_name_of, member_name}
use Rattle.document_store.specs.Store.{Store, present, present_at, number_of}
use Rattle.document_store.proofs.DocumentLemmas.{number_of-behind, find-None}
use Rattle.group_members.specs.Members.{is_name, is_file_of, is_there, files_of, first_path, member_number, first_number, member_at, as_member, member_of}
use Rattle.group_members.specs.Agreement.{lies_in, IsSameIn}
use Rattle.group_members.proofs.GatheringLaws.{All-filter, HasPlace, all_have_places, first_path-picks}

-- ---- lists

some_same : {X : Type 0} (x y : X) → Some x ≡ Some y → x ≡ y
some_same x y e = cc

-- each element is found
found_in_itself : (xs : List (List ℕ)) → AllByRecursion (λ x. list_any (bytes_eq x) xs ≡ true) xs
found_in_itself xs = recursion_from_All (λ x. list_any (bytes_eq x) xs ≡ true) xs (λ k d lt.
    let x = get_or xs k d in
    let same : get_or xs k x ≡ x = some_same (get_or xs k x) x (sym (slice_get-get_or xs k x lt) ∙ slice_get-get_or xs k d lt) in
    list_any-from_Any (bytes_eq x) xs (k, x, lt, same, (bytes_eq-Decides x x).1 refl))

-- the same are found where the tests are the same, at each element
filter_map-same : {X Y : Type 0} (f g : X → Option Y) (xs : List X) → AllByRecursion (λ x. f x ≡ g x) xs → filter_map f xs ≡ filter_map g xs
filter_map-same f g [] same = refl
filter_map-same f g (x ∷ xs) same = ap (λ o. cons_option o (filter_map f xs)) same.0 ∙ ap (cons_option (g x)) (filter_map-same f g xs same.1)

All-map : {X : Type 0} (P Q : X → Type 0) (xs : List X) → ((x : X) → P x → Q x) → AllByRecursion P xs → AllByRecursion Q xs
All-map P Q [] f all = tt
All-map P Q (x ∷ xs) f all = (f x all.0, All-map P Q xs f all.1)

filter-none : {X : Type 0} (t : X → Bool) (xs : List X) → AllByRecursion (λ x. t x ≡ false) xs → filter t xs ≡ []
filter-none t [] none = refl
filter-none t (x ∷ xs) none = ap (λ b. cond b (x ∷ filter t xs) (filter t xs)) none.0 ∙ filter-none t xs none.1

-- each element of what a filter leaves passes it
filter-passes : {X : Type 0} (t : X → Bool) (xs : List X) → AllByRecursion (λ x. t x ≡ true) (filter t xs)
filter-passes t [] = tt
filter-passes t (x ∷ xs) = by (t x) refl (filter-passes t xs)
  where
    by : (b : Bool) → t x ≡ b → AllByRecursion (λ y. t y ≡ true) (filter t xs) → AllByRecursion (λ y. t y ≡ true) (cond b (x ∷ filter t xs) (filter t xs))
    by true is rest = (is, rest)
    by false is rest = rest

All-both : {X : Type 0} (P Q : X → Type 0) (xs : List X) → AllByRecursion P xs → AllByRecursion Q xs → AllByRecursion (λ x. P x × Q x) xs
All-both P Q [] p q = tt
All-both P Q (x ∷ xs) p q = ((p.0, q.0), All-both P Q xs p.1 q.1)

-- what is found first among several is found for one of them
first-has : {X : Type 0} (h : X → Option ℕ) (Q : ℕ → Type 0) (xs : List X) → AllByRecursion (λ x. (n : ℕ) → h x ≡ Some n → Q n) xs →
    (n : ℕ) → slice_get (filter_map h xs) 0 ≡ Some n → Q n
first-has h Q [] all n e = absurd (none-some n e)
first-has h Q (x ∷ xs) all n e = by (h x) refl e (λ rest. first-has h Q xs all.1 n rest)
  where
    by : (o : Option ℕ) → h x ≡ o → slice_get (cons_option o (filter_map h xs)) 0 ≡ Some n → (slice_get (filter_map h xs) 0 ≡ Some n → Q n) → Q n
    by None is found later = later found
    by (Some m) is found later = all.0 n (is ∙ found)

slice_get-front : {X : Type 0} (xs ys : List X) (k : ℕ) (x : X) → slice_get xs k ≡ Some x → slice_get (xs ++ ys) k ≡ Some x
slice_get-front [] ys k x e = absurd (none-some x e)
slice_get-front (z ∷ xs) ys zero x e = e
slice_get-front (z ∷ xs) ys (suc k) x e = slice_get-front xs ys k x e

-- what passes is found
find-there : {X : Type 0} (t : X → Bool) (xs : List X) (k : ℕ) (x : X) → slice_get xs k ≡ Some x → t x ≡ true → find t xs ≡ None → ⊥
find-there t [] k x e passes none = none-some x e
find-there t (z ∷ xs) zero x e passes none =
    let first : z ≡ x = some_same z x e in
    none-some z (sym none ∙ ap (λ b. cond b (Some z) (find t xs)) (ap t first ∙ passes))
find-there t (z ∷ xs) (suc k) x e passes none = by (t z) refl none (λ rest. find-there t xs k x e passes rest)
  where
    by : (b : Bool) → t z ≡ b → cond b (Some z) (find t xs) ≡ None → (find t xs ≡ None → ⊥) → ⊥
    by true is none later = none-some z (sym none)
    by false is none later = later none

-- the path of a number
number_of-place : (paths : List (List ℕ)) (path : List ℕ) (n : ℕ) → number_of paths path ≡ Some n → slice_get paths n ≡ Some path
number_of-place paths path n found =
    let at = position-Some (bytes_eq path) paths n [] found in
    slice_get-get_or paths n [] at.0 ∙ ap Some (sym ((bytes_eq-Decides path (get_or paths n [])).0 at.1))

and_left : (a b : Bool) → (a && b) ≡ true → a ≡ true
and_left true b e = refl
and_left false b e = absurd (true≢false (sym e))

-- ---- a folder

module _ (folders : List (List ℕ)) (old new : Store) (agree : IsSameIn folders old new) where
  module _ (folder name : List ℕ) (among : list_any (bytes_eq folder) folders ≡ true) where
    -- a file of the folder lies in one of them
    lies : (path : List ℕ) → bytes_eq folder (folder_of path) ≡ true → lies_in folders path ≡ true
    lies path is = subst (λ f. list_any (bytes_eq f) folders ≡ true) ((bytes_eq-Decides folder (folder_of path)).0 is) among

    there : (path : List ℕ) → is_there new folder name path ≡ is_there old folder name path
    there path = by (bytes_eq folder (folder_of path)) refl
      where
        by : (b : Bool) → bytes_eq folder (folder_of path) ≡ b → is_there new folder name path ≡ is_there old folder name path
        by true is = ap (λ o. is_file_of folder name path && is_some o) (agree.same path (lies path is))
        by false other =
            ap (λ b. (b && is_name name (member_name (file_name_of path))) && is_some (present new path)) other
            ∙ sym (ap (λ b. (b && is_name name (member_name (file_name_of path))) && is_some (present old path)) other)

    gone : (path : List ℕ) → (lies_in folders path && is_some (present new path)) ≡ false → is_there new folder name path ≡ false
    gone path outside = by (bytes_eq folder (folder_of path)) refl
      where
        none : (b : Bool) → (b && false) ≡ false
        none true = refl
        none false = refl

        by : (b : Bool) → bytes_eq folder (folder_of path) ≡ b → is_there new folder name path ≡ false
        by true is =
            let absent : is_some (present new path) ≡ false = sym (ap (λ b. b && is_some (present new path)) (lies path is)) ∙ outside in
            ap (λ b. is_file_of folder name path && b) absent ∙ none (is_file_of folder name path)
        by false other = ap (λ b. (b && is_name name (member_name (file_name_of path))) && is_some (present new path)) other

    files : files_of new folder name ≡ files_of old folder name
    files =
        ap (filter (is_there new folder name)) agree.paths
        ∙ filter-append (is_there new folder name) old.paths agree.more
        ∙ ap (λ ys. filter (is_there new folder name) old.paths ++ ys)
        (filter-none (is_there new folder name) agree.more (All-map (λ path. (lies_in folders path && is_some (present new path)) ≡ false) (λ path. is_there new folder name path ≡ false) agree.more gone agree.outside))
        ∙ append-nil (filter (is_there new folder name) old.paths)
        ∙ (λ i. filter (λ path. there path i) old.paths)

    -- each of the files has a place, and lies in the folder
    known : (first : List ℕ) → first_path (files_of old folder name) ≡ Some first → HasPlace old.paths first × (is_there old folder name first ≡ true)
    known first is = first_path-picks (λ path. HasPlace old.paths path × (is_there old folder name path ≡ true)) (files_of old folder name) first
        (All-both (HasPlace old.paths) (λ path. is_there old folder name path ≡ true) (files_of old folder name)
        (All-filter (HasPlace old.paths) (is_there old folder name) old.paths (all_have_places old.paths)) (filter-passes (is_there old folder name) old.paths)) is

    number : member_number new folder name ≡ member_number old folder name
    number = ap (λ paths. option_and_then (number_of new.paths) (first_path paths)) files ∙ by (first_path (files_of old folder name)) refl
      where
        numbered : (first : List ℕ) (o : Option ℕ) → number_of old.paths first ≡ o → HasPlace old.paths first → number_of new.paths first ≡ number_of old.paths first
        numbered first None none place = absurd (find-there (bytes_eq first) old.paths place.0 first place.1 ((bytes_eq-Decides first first).1 refl) (find-None (bytes_eq first) old.paths none))
        numbered first (Some n) is place = ap (λ paths. number_of paths first) agree.paths ∙ number_of-behind old.paths agree.more first n is ∙ sym is

        by : (o : Option (List ℕ)) → first_path (files_of old folder name) ≡ o → option_and_then (number_of new.paths) o ≡ option_and_then (number_of old.paths) o
        by None is = refl
        by (Some first) is = numbered first (number_of old.paths first) refl (known first is).0

    present_there : (n : ℕ) → member_number old folder name ≡ Some n → present_at new n ≡ present_at old n
    present_there n found = by (first_path (files_of old folder name)) refl found
      where
        by : (o : Option (List ℕ)) → first_path (files_of old folder name) ≡ o → option_and_then (number_of old.paths) o ≡ Some n → present_at new n ≡ present_at old n
        by None is e = absurd (none-some n e)
        by (Some first) is e =
            let place : slice_get old.paths n ≡ Some first = number_of-place old.paths first n e in
            let tested = and_left (is_file_of folder name first) (is_some (present old first)) (known first is).1 in
            let lies_there = lies first (and_left (bytes_eq folder (folder_of first)) (is_name name (member_name (file_name_of first))) tested) in
            ap (λ paths. option_and_then (present new) (slice_get paths n)) agree.paths
            ∙ ap (option_and_then (present new)) (slice_get-front old.paths agree.more n first place)
            ∙ agree.same first lies_there
            ∙ sym (ap (option_and_then (present old)) place)

  -- ---- the folders

  numbers : (name : List ℕ) → first_number new folders name ≡ first_number old folders name
  numbers name = ap (λ ns. slice_get ns 0) (filter_map-same (λ f. member_number new f name) (λ f. member_number old f name) folders
      (All-map (λ f. list_any (bytes_eq f) folders ≡ true) (λ f. member_number new f name ≡ member_number old f name) folders (λ f among. number f name among) (found_in_itself folders)))

  first_there : (name : List ℕ) (n : ℕ) → first_number old folders name ≡ Some n → present_at new n ≡ present_at old n
  first_there name = first-has (λ f. member_number old f name) (λ n. present_at new n ≡ present_at old n) folders
      (All-map (λ f. list_any (bytes_eq f) folders ≡ true) (λ f. (n : ℕ) → member_number old f name ≡ Some n → present_at new n ≡ present_at old n) folders
      (λ f among. present_there f name among) (found_in_itself folders))

  -- the members of the folders are the same
  pub member_of-same : (name : List ℕ) → member_of new folders name ≡ member_of old folders name
  unfolding member_of
  member_of-same name = ap (member_at new) (numbers name) ∙ by (first_number old folders name) refl
    where
      by : (o : Option ℕ) → first_number old folders name ≡ o → member_at new o ≡ member_at old o
      by None is = refl
      by (Some n) is = ap (as_member n) (first_there name n is)

-- ---- some of the folders

-- what is the same in folders is the same in some of them
pub IsSameIn-part : (all part : List (List ℕ)) (old new : Store) → ((folder : List ℕ) → list_any (bytes_eq folder) part ≡ true → list_any (bytes_eq folder) all ≡ true) →
    IsSameIn all old new → IsSameIn part old new
IsSameIn-part all part old new within agree = record {
  more = agree.more;
  paths = agree.paths;
  outside = All-map (λ path. (lies_in all path && is_some (present new path)) ≡ false) (λ path. (lies_in part path && is_some (present new path)) ≡ false) agree.more
      (λ path outside. fewer path (lies_in part path) refl outside) agree.outside;
  same = λ path lies. agree.same path (within (folder_of path) lies);
}
  where
    fewer : (path : List ℕ) (b : Bool) → lies_in part path ≡ b → (lies_in all path && is_some (present new path)) ≡ false → (lies_in part path && is_some (present new path)) ≡ false
    fewer path true is outside =
        ap (λ b. b && is_some (present new path)) (is ∙ sym (within (folder_of path) is)) ∙ outside
    fewer path false is outside = ap (λ b. b && is_some (present new path)) is
