-- Folders that are gathered, each once.
use Rattle.std.proofs.Common.{◌≡◌, ◌∙◌, ℕ, ◌+◌, ◌<◌, Bool, true, false, not, ◌||◌, cond, List, [], ◌∷◌, ◌++◌, length, take, get_or, map, refl, sym, ap, inl, inr, append-nil, if◌then◌else◌}
use Rattle.std.specs.Prelude.{filter, chars, IsUtf8, encode_utf8_all}
use Rattle.std.specs.List.{list_any}
use Rattle.std.specs.Str.{bytes_eq}
use Rattle.std.proofs.lemmas.Bool.{cases_Bool, true≢false}
use Rattle.std.proofs.lemmas.List.{take_more, map-append}
use Rattle.std.proofs.lemmas.List.Elements.{filter-append}
use Rattle.std.proofs.lemmas.Slice.Eq.{bytes_eq-Decides}
use Rattle.std.proofs.lemmas.Str.{encodes-chars}
use Rattle.library_folders.specs.Folders.{each_once, folder_at, distinct, is_library_folder}
use Rattle.library_folders.specs.declared.folders.Folder.{Folder}

-- ---- texts that are equal

-- what is equal to one of two equal texts is equal to the other
same_as : (p x y : List ℕ) → bytes_eq x y ≡ true → bytes_eq p y ≡ bytes_eq p x
same_as p x y e = ap (bytes_eq p) (sym ((bytes_eq-Decides x y).0 e))

-- a text is equal to another where that is equal to it
pub bytes_eq-turned : (x y : List ℕ) → bytes_eq x y ≡ bytes_eq y x
bytes_eq-turned x y = elim (cases_Bool (bytes_eq x y)) [
  | inl same ↦ same ∙ sym ((bytes_eq-Decides y x).1 (sym ((bytes_eq-Decides x y).0 same)))
  | inr other ↦ elim (cases_Bool (bytes_eq y x)) [
    | inl same ↦ absurd (true≢false (sym ((bytes_eq-Decides x y).1 (sym ((bytes_eq-Decides y x).0 same))) ∙ other))
    | inr apart ↦ other ∙ sym apart
  ]
]

-- texts are equal where their bytes are
pub bytes_eq-chars : (xs ys : List ℕ) → IsUtf8 xs → IsUtf8 ys → bytes_eq (chars xs) (chars ys) ≡ bytes_eq xs ys
bytes_eq-chars xs ys u v = elim (cases_Bool (bytes_eq xs ys)) [
  | inl same ↦ (bytes_eq-Decides (chars xs) (chars ys)).1 (ap chars ((bytes_eq-Decides xs ys).0 same)) ∙ sym same
  | inr other ↦ elim (cases_Bool (bytes_eq (chars xs) (chars ys))) [
    | inl same ↦
        let e : chars xs ≡ chars ys = (bytes_eq-Decides (chars xs) (chars ys)).0 same in
        let bytes = (bytes_eq-Decides xs ys).1 (sym (encodes-chars xs u) ∙ ap encode_utf8_all e ∙ encodes-chars ys v) in
        absurd (true≢false (sym bytes ∙ other))
    | inr apart ↦ apart ∙ sym other
  ]
]

-- ---- each once

-- a text that is not left out is found as before
any-others : (p x : List ℕ) (ys : List (List ℕ)) → bytes_eq p x ≡ false → list_any (bytes_eq p) (filter (λ o. not (bytes_eq x o)) ys) ≡ list_any (bytes_eq p) ys
any-others p x [] apart = refl
any-others p x (y ∷ ys) apart = elim (cases_Bool (bytes_eq x y)) [
  | inl same ↦
      ap (list_any (bytes_eq p)) (ap (λ b. cond (not b) (y ∷ filter (λ o. not (bytes_eq x o)) ys) (filter (λ o. not (bytes_eq x o)) ys)) same)
      ∙ any-others p x ys apart
      ∙ sym (ap (λ b. b || list_any (bytes_eq p) ys) (same_as p x y same ∙ apart))
  | inr other ↦
      ap (list_any (bytes_eq p)) (ap (λ b. cond (not b) (y ∷ filter (λ o. not (bytes_eq x o)) ys) (filter (λ o. not (bytes_eq x o)) ys)) other)
      ∙ ap (λ b. bytes_eq p y || b) (any-others p x ys apart)
]

-- the same texts are found
pub any-each_once : (p : List ℕ) (xs : List (List ℕ)) → list_any (bytes_eq p) (each_once xs) ≡ list_any (bytes_eq p) xs
any-each_once p [] = refl
any-each_once p (x ∷ xs) = elim (cases_Bool (bytes_eq p x)) [
  | inl same ↦ rw same refl
  | inr other ↦ ap (λ b. bytes_eq p x || b) (any-others p x (each_once xs) other ∙ any-each_once p xs)
]

-- with one text more
pub each_once-push : (xs : List (List ℕ)) (p : List ℕ) → each_once (xs ++ p ∷ []) ≡ (if list_any (bytes_eq p) xs then each_once xs else each_once xs ++ p ∷ [])
each_once-push [] p = refl
each_once-push (x ∷ xs) p =
    ap (λ ys. x ∷ filter (λ o. not (bytes_eq x o)) ys) (each_once-push xs p)
    ∙ by (list_any (bytes_eq p) xs) (bytes_eq p x) (bytes_eq-turned x p)
  where
    others : List (List ℕ) → List (List ℕ)
    others ys = filter (λ o. not (bytes_eq x o)) ys

    by : (found first : Bool) → bytes_eq x p ≡ first →
        x ∷ filter (λ o. not (bytes_eq x o)) (if found then each_once xs else each_once xs ++ p ∷ [])
        ≡ (if first || found then each_once (x ∷ xs) else each_once (x ∷ xs) ++ p ∷ [])
    by true true e = refl
    by true false e = refl
    by false true e = ap (λ ys. x ∷ ys) (
        filter-append (λ o. not (bytes_eq x o)) (each_once xs) (p ∷ [])
        ∙ ap (λ b. filter (λ o. not (bytes_eq x o)) (each_once xs) ++ cond (not b) (p ∷ []) []) e
        ∙ append-nil (filter (λ o. not (bytes_eq x o)) (each_once xs)))
    by false false e = ap (λ ys. x ∷ ys) (
        filter-append (λ o. not (bytes_eq x o)) (each_once xs) (p ∷ [])
        ∙ ap (λ b. filter (λ o. not (bytes_eq x o)) (each_once xs) ++ cond (not b) (p ∷ []) []) e)

-- ---- the folders so far

-- the paths of folders
abbrev pub paths_in : List Folder → List (List ℕ)
paths_in folders = map (λ folder. folder.path) folders

-- the folders of the first entries, each once, as all entries say
abbrev pub distinct_so_far : List Folder → ℕ → List Folder
distinct_so_far named i = map (folder_at named) (each_once (paths_in (take i named)))

any-folders : (named : List Folder) (p : List ℕ) (paths : List (List ℕ)) → is_library_folder (map (folder_at named) paths) p ≡ list_any (bytes_eq p) paths
any-folders named p [] = refl
any-folders named p (x ∷ xs) = ap (λ b. bytes_eq p x || b) (any-folders named p xs)

module _ (named : List Folder) (i : ℕ) (folder : Folder) (more : i < length named) (is_next : folder ≡ get_or named i folder) where
  next_paths : paths_in (take (i + 1) named) ≡ paths_in (take i named) ++ folder.path ∷ []
  next_paths =
      ap paths_in (take_more named i folder more ∙ ap (λ f. take i named ++ f ∷ []) (sym is_next))
      ∙ map-append (λ (f : Folder). f.path) (take i named) (folder ∷ [])

  found_so_far : is_library_folder (distinct_so_far named i) folder.path ≡ list_any (bytes_eq folder.path) (paths_in (take i named))
  found_so_far = any-folders named folder.path (each_once (paths_in (take i named))) ∙ any-each_once folder.path (paths_in (take i named))

  step : (b : Bool) → is_library_folder (distinct_so_far named i) folder.path ≡ b →
      distinct_so_far named (i + 1) ≡ map (folder_at named) (if b then each_once (paths_in (take i named)) else each_once (paths_in (take i named)) ++ folder.path ∷ [])
  step b e =
      ap (λ paths. map (folder_at named) (each_once paths)) next_paths
      ∙ ap (map (folder_at named)) (each_once-push (paths_in (take i named)) folder.path
      ∙ ap (λ found. if found then each_once (paths_in (take i named)) else each_once (paths_in (take i named)) ++ folder.path ∷ []) (sym found_so_far ∙ e))

  pub distinct_so_far-next : distinct_so_far named (i + 1)
      ≡ (if is_library_folder (distinct_so_far named i) folder.path then distinct_so_far named i else distinct_so_far named i ++ folder_at named folder.path ∷ [])
  distinct_so_far-next = by (is_library_folder (distinct_so_far named i) folder.path) refl
    where
      by : (b : Bool) → is_library_folder (distinct_so_far named i) folder.path ≡ b
          → distinct_so_far named (i + 1) ≡ (if b then distinct_so_far named i else distinct_so_far named i ++ folder_at named folder.path ∷ [])
      by true e = step true e
      by false e = step false e ∙ map-append (folder_at named) (each_once (paths_in (take i named))) (folder.path ∷ [])

-- the entry of a path made the next folders of those so far
pub distinct_so_far-included : (named : List Folder) (i : ℕ) (folder : Folder) (path : List ℕ) (old new : List Folder) → i < length named → folder ≡ get_or named i folder → path ≡ folder.path
    → old ≡ distinct_so_far named i → new ≡ (if is_library_folder old path then old else old ++ folder_at named path ∷ []) → new ≡ distinct_so_far named (i + 1)
distinct_so_far-included named i folder path old new more is_next is_path so_far added =
    added
    ∙ rw (so_far, is_path) (sym (distinct_so_far-next named i folder more is_next))

-- ---- library folders by their paths

-- the folders of entries are those that are named
pub any-distinct : (named : List Folder) (path : List ℕ) → is_library_folder (distinct named) path ≡ list_any (bytes_eq path) (paths_in named)
any-distinct named path = any-folders named path (each_once (paths_in named)) ∙ any-each_once path (paths_in named)

-- a folder is found by its path
pub any-paths_in : (folders : List Folder) (path : List ℕ) → list_any (bytes_eq path) (paths_in folders) ≡ is_library_folder folders path
any-paths_in [] path = refl
any-paths_in (folder ∷ folders) path = ap (λ b. bytes_eq path folder.path || b) (any-paths_in folders path)
