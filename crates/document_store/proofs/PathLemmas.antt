-- The numbers of paths that keys spell, and what stands beside them.
use Rattle.std.proofs.Common.{◌≡◌, ◌∙◌, ◌⊎◌, ℕ, zero, suc, ◌+◌, Bool, true, false, not, cond, List, [], ◌∷◌, ◌++◌, length, map, refl, sym, inl, inr, ap, subst, Some, None, Option}
use Rattle.std.specs.Prelude.{◌||◌, position, slice_get, chars, string_bytes, IsUtf8}
use Rattle.std.specs.List.{list_any}
use Rattle.std.specs.Str.{bytes_eq}
use Rattle.std.specs.String.{string_eq}
use Rattle.std.specs.declared.string.String.{String}
use Rattle.std.specs.declared.alloc.Global.{Global}
use Rattle.std.proofs.lemmas.List.{map-append, length-map, length_push}
use Rattle.std.proofs.lemmas.Str.{IsUtf8-string_bytes}
use Rattle.indexmap.specs.IndexSet.{insert_key}
use Rattle.document_store.specs.Store.{number_of}
use Rattle.document_store.specs.Changes.{with_path, beside_path}
use Rattle.document_store.specs.Shown.{PathsDiffer}
use Rattle.document_store.specs.Inside.{path_in, paths_in}
use Rattle.document_store.proofs.DocumentLemmas.{position_alike, bytes_eq-chars, number_of-behind, number_of-last, with_path-known, with_path-new}

-- ---- keys

-- a path is sought by its bytes
pub number_of-keys : (keys : List (String Global)) (path : List ℕ) → IsUtf8 path →
    position (λ key. bytes_eq path (string_bytes key)) keys ≡ number_of (paths_in keys) (chars path)
number_of-keys keys path utf8 =
    sym (position_alike (λ key. bytes_eq path (string_bytes key)) (bytes_eq (chars path)) path_in
    (λ key. bytes_eq-chars path (string_bytes key) utf8 (IsUtf8-string_bytes key)) keys)

pub length-paths_in : (keys : List (String Global)) → length (paths_in keys) ≡ length keys
length-paths_in keys = length-map keys path_in

any_alike : {X Y : Type 0} (p : X → Bool) (q : Y → Bool) (f : X → Y) → ((x : X) → q (f x) ≡ p x) → (xs : List X) → list_any q (map f xs) ≡ list_any p xs
any_alike p q f same [] = refl
any_alike p q f same (x ∷ xs) = ap (λ b. b || list_any q (map f xs)) (same x) ∙ ap (λ b. p x || b) (any_alike p q f same xs)

module _ (keys : List (String Global)) (key : String Global) where
  -- whether a key is there is told by its path
  pub any_key : list_any (bytes_eq (path_in key)) (paths_in keys) ≡ list_any (string_eq key) keys
  any_key =
      any_alike (string_eq key) (bytes_eq (path_in key)) path_in
      (λ other. bytes_eq-chars (string_bytes key) (string_bytes other) (IsUtf8-string_bytes key) (IsUtf8-string_bytes other)) keys

  inserted : (b : Bool) → paths_in (cond b keys (keys ++ key ∷ [])) ≡ cond b (paths_in keys) (paths_in keys ++ path_in key ∷ [])
  inserted true = refl
  inserted false = map-append path_in keys (key ∷ [])

  -- a key that is inserted enters its path
  pub paths_in-insert_key : paths_in (insert_key string_eq keys key) ≡ with_path (paths_in keys) (path_in key)
  paths_in-insert_key =
      inserted (list_any (string_eq key) keys)
      ∙ ap (λ b. cond b (paths_in keys) (paths_in keys ++ path_in key ∷ [])) (sym any_key)

  swapped : {X : Type 0} (b : Bool) (x y : X) → cond b x y ≡ cond (not b) y x
  swapped true x y = refl
  swapped false x y = refl

  -- what stands beside it goes last where the key was added, and stays away where it was there
  pub beside_path-added : {X : Type 0} (added : Bool) → added ≡ not (list_any (string_eq key) keys) → (xs : List X) (x : X) →
      beside_path (paths_in keys) (path_in key) xs x ≡ cond added (xs ++ x ∷ []) xs
  beside_path-added added is xs x =
      ap (λ b. cond b xs (xs ++ x ∷ [])) any_key
      ∙ swapped (list_any (string_eq key) keys) xs (xs ++ x ∷ [])
      ∙ ap (λ b. cond b (xs ++ x ∷ []) xs) (sym is)

-- ---- numbers

some_same : {X : Type 0} (x y : X) → Some x ≡ Some y → x ≡ y
some_same x y is = cc

-- what stands in a list with one more stood there, or is the last
slice_get-pushed : {X : Type 0} (xs : List X) (x : X) (n : ℕ) (y : X) → slice_get (xs ++ x ∷ []) n ≡ Some y → (slice_get xs n ≡ Some y) ⊎ ((n ≡ length xs) × (y ≡ x))
slice_get-pushed [] x zero y at = inr (refl, sym (some_same x y at))
slice_get-pushed [] x (suc n) y at = absurd cc
slice_get-pushed (z ∷ xs) x zero y at = inl at
slice_get-pushed (z ∷ xs) x (suc n) y at = behind (slice_get-pushed xs x n y at)
  where
    behind : (slice_get xs n ≡ Some y) ⊎ ((n ≡ length xs) × (y ≡ x)) → (slice_get xs n ≡ Some y) ⊎ ((suc n ≡ suc (length xs)) × (y ≡ x))
    behind (inl before) = inl before
    behind (inr (last, same)) = inr (ap suc last, same)

PathsDiffer-pushed : (paths : List (List ℕ)) (path : List ℕ) → PathsDiffer paths → number_of paths path ≡ None → PathsDiffer (paths ++ path ∷ [])
PathsDiffer-pushed paths path differ none n other at = by (slice_get-pushed paths path n other at)
  where
    by : (slice_get paths n ≡ Some other) ⊎ ((n ≡ length paths) × (other ≡ path)) → number_of (paths ++ path ∷ []) other ≡ Some n
    by (inl before) = number_of-behind paths (path ∷ []) other n (differ n other before)
    by (inr (last, same)) = ap (number_of (paths ++ path ∷ [])) same ∙ number_of-last paths path none ∙ ap Some (sym last)

-- paths with one more differ
pub PathsDiffer-with_path : (paths : List (List ℕ)) (path : List ℕ) → PathsDiffer paths → PathsDiffer (with_path paths path)
PathsDiffer-with_path paths path differ = by (number_of paths path) refl
  where
    by : (found : Option ℕ) → number_of paths path ≡ found → PathsDiffer (with_path paths path)
    by (Some n) is = subst PathsDiffer (sym (with_path-known paths path n is)) differ
    by None is = subst PathsDiffer (sym (with_path-new paths path is)) (PathsDiffer-pushed paths path differ is)

length-beside : {X Y : Type 0} (b : Bool) (xs : List X) (x : X) (ys : List Y) (y : Y) → length xs ≡ length ys →
    length (cond b xs (xs ++ x ∷ [])) ≡ length (cond b ys (ys ++ y ∷ []))
length-beside true xs x ys y same = same
length-beside false xs x ys y same = length_push xs x ∙ ap (λ n. n + 1) same ∙ sym (length_push ys y)

-- as many stand beside the paths as before
pub length-beside_path : {X : Type 0} (paths : List (List ℕ)) (path : List ℕ) (xs : List X) (x : X) → length xs ≡ length paths →
    length (beside_path paths path xs x) ≡ length (with_path paths path)
length-beside_path paths path xs x same = length-beside (list_any (bytes_eq path) paths) xs x paths path same
