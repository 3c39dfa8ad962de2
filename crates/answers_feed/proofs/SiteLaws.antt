-- What decides where the frames of a program stand.
use Rattle.std.proofs.Common.{◌≡◌, ◌∙◌, ℕ, zero, suc, ◌+◌, ◌<◌, Bool, true, false, not, cond, List, [], ◌∷◌, ◌++◌, length, map, filter, find, Option, Some, None, refl, sym, ap, arith}
use Rattle.std.proofs.Math.Path.{fun_ext}
use Rattle.std.specs.Prelude.{ℤ, position, nat_lt, slice_get, slice_index_or, unwrap_or, Contains}
use Rattle.std.specs.List.{list_any, position_or_len}
use Rattle.std.specs.Option.{option_and_then, option_map, option_map_or}
use Rattle.std.specs.Str.{bytes_eq}
use Rattle.std.proofs.lemmas.List.{append-nil}
use Rattle.std.proofs.lemmas.Slice.Eq.{bytes_eq-Decides}
use Rattle.file_uri.specs.Paths.{uri_of}
use Rattle.document_store.specs.Store.{Store, OpenDocument, File, Readable, is_at, document_of, file_of, present, present_in}
use Rattle.document_store.specs.Changes.{with_document, with_text, without}
use Rattle.library_folders.specs.declared.folders.Folder.{Folder}
use Rattle.library_folders.specs.Folders.{is_member}
use Rattle.answers_feed.specs.Laws.{IsSameLibrary}
use Rattle.text_sites.specs.Sites.{site_told, uri_at, no_site, site_at as site_shown}
use Rattle.answers_feed.specs.Sites.{member_site, shelf, site_at, IsOpen, own_site, sites_of}

-- ---- the site of a program

-- the text that is shown of an open document is its own, under its own URI
pub shown_own : (store : Store) (number : ℕ) (document : OpenDocument) → IsOpen store number document → site_shown store number ≡ own_site document
shown_own store number document is =
    ap (λ (found : Option (List ℕ)). unwrap_or (option_and_then (λ path. site_told (uri_at store path) (present store path)) found) no_site) is.path
    ∙ ap (λ (opens : Option OpenDocument). unwrap_or (site_told (option_map_or (λ (d : OpenDocument). d.uri) opens (uri_of document.path)) (present_in store document.path opens)) no_site) is.is_open

-- ---- paths with further ones behind them

contains_at : {X : Type 0} (xs : List X) (n : ℕ) (x : X) → slice_get xs n ≡ Some x → Contains xs x
contains_at [] n x is = cc
contains_at (y ∷ ys) zero x is = let same : y ≡ x = cc in (0, (let h : 0 < suc (length ys) = omega arith in h), same)
contains_at (y ∷ ys) (suc n) x is =
    let at = contains_at ys n x is in
    let within : at.0 < length ys = at.1 in
    (suc at.0, (let h : suc at.0 < suc (length ys) = omega arith in h), at.2)

nothing_behind : {X Y : Type 0} (f : X → Option Y) (xs : List X) (n : ℕ) → ((x : X) → Contains xs x → f x ≡ None) → option_and_then f (slice_get xs n) ≡ None
nothing_behind {X} {Y} f xs n none = by_item (slice_get xs n) refl where
  by_item : (o : Option X) → slice_get xs n ≡ o → option_and_then f o ≡ None
  by_item None e = refl
  by_item (Some x) e = none x (contains_at xs n x e)

-- what is found of the items is found of them with others behind, of which nothing is
front_decides : {X Y : Type 0} (f g : X → Option Y) (xs more : List X) (n : ℕ) → ((x : X) → f x ≡ g x) → ((x : X) → Contains more x → f x ≡ None)
    → option_and_then f (slice_get (xs ++ more) n) ≡ option_and_then g (slice_get xs n)
front_decides f g [] more n same none = nothing_behind f more n none
front_decides f g (x ∷ xs) more zero same none = same x
front_decides f g (x ∷ xs) more (suc n) same none = front_decides f g xs more n same none

-- ---- the sites of stores with the same members

module _ (folders : List Folder) (old new : Store) (same : IsSameLibrary folders old new) where
  same_site : (path : List ℕ) → member_site folders new path ≡ member_site folders old path
  same_site path = by_member (is_member folders path) refl where
    by_member : (b : Bool) → is_member folders path ≡ b
        → cond b (site_told (uri_at new path) (present new path)) None ≡ cond b (site_told (uri_at old path) (present old path)) None
    by_member true inside = ap (λ uri. site_told uri (present new path)) (same.uri_is path inside) ∙ ap (site_told (uri_at old path)) (same.present_is path inside)
    by_member false outside = refl

  no_site_outside : (path : List ℕ) → Contains same.more path → member_site folders new path ≡ None
  no_site_outside path further = ap (λ b. cond b (site_told (uri_at new path) (present new path)) None) (same.outside path further)

  -- the members are the same
  pub same_shelf : shelf folders new ≡ shelf folders old
  same_shelf = fun_ext (λ number.
      ap (λ paths. option_and_then (member_site folders new) (slice_get paths number)) same.paths
      ∙ front_decides (member_site folders new) (member_site folders old) old.paths same.more number same_site no_site_outside)

  -- so frames stand where they stood
  pub same_sites : (program : ℕ) (document : OpenDocument) → sites_of folders new program document ≡ sites_of folders old program document
  same_sites program document = ap (site_at program (own_site document)) same_shelf

-- ---- what is present at a path

-- a path outside the library folders is none within
differs : (folders : List Folder) (path other : List ℕ) → is_member folders path ≡ false → is_member folders other ≡ true → bytes_eq path other ≡ false
differs folders path other outside inside = by_test (bytes_eq path other) refl where
  by_test : (b : Bool) → bytes_eq path other ≡ b → b ≡ false
  by_test true e = let same : path ≡ other = (bytes_eq-Decides path other).0 e in sym inside ∙ ap (is_member folders) (sym same) ∙ outside
  by_test false e = refl

differs_back : (folders : List Folder) (path other : List ℕ) → is_member folders path ≡ false → is_member folders other ≡ true → bytes_eq other path ≡ false
differs_back folders path other outside inside = by_test (bytes_eq other path) refl where
  by_test : (b : Bool) → bytes_eq other path ≡ b → b ≡ false
  by_test true e = let same : other ≡ path = (bytes_eq-Decides other path).0 e in sym inside ∙ ap (is_member folders) same ∙ outside
  by_test false e = refl

-- the same is present where the same document is open, or none is and the same is kept of the file
same_present : (old new : Store) (path : List ℕ) → document_of new path ≡ document_of old path → file_of new path ≡ file_of old path → present new path ≡ present old path
same_present old new path opens kept = ap (present_in new path) opens ∙ by_open (document_of old path) where
  by_open : (o : Option OpenDocument) → present_in new path o ≡ present_in old path o
  by_open (Some document) = refl
  by_open None = kept

same_uri : (old new : Store) (path : List ℕ) → document_of new path ≡ document_of old path → uri_at new path ≡ uri_at old path
same_uri old new path opens = ap (λ document. option_map_or (λ (d : OpenDocument). d.uri) document (uri_of path)) opens

-- with no further paths
no_further : (folders : List Folder) (path : List ℕ) → Contains [] path → is_member folders path ≡ false
no_further folders path further = absurd (let h : further.0 < 0 = further.1 in omega arith)

same_paths : (folders : List Folder) (old new : Store) → new.paths ≡ old.paths → ((path : List ℕ) → is_member folders path ≡ true → document_of new path ≡ document_of old path)
    → ((path : List ℕ) → file_of new path ≡ file_of old path) → IsSameLibrary folders old new
same_paths folders old new paths opens kept = record {
  more = [];
  paths = paths ∙ sym (append-nil old.paths);
  outside = no_further folders;
  present_is = λ path inside. same_present old new path (opens path inside) (kept path);
  uri_is = λ path inside. same_uri old new path (opens path inside);
}

-- ---- documents that are changed and closed

changed_elsewhere : (path other : List ℕ) (version : ℤ) (text : List ℕ) (documents : List OpenDocument) → bytes_eq path other ≡ false
    → find (is_at other) (map (λ d. cond (is_at path d) (record d { version = version; text = text }) d) documents) ≡ find (is_at other) documents
changed_elsewhere path other version text [] apart = refl
changed_elsewhere path other version text (d ∷ ds) apart = by_test (is_at path d) refl (changed_elsewhere path other version text ds apart) where
  rest : Option OpenDocument
  rest = find (is_at other) (map (λ d. cond (is_at path d) (record d { version = version; text = text }) d) ds)

  by_test : (b : Bool) → is_at path d ≡ b → rest ≡ find (is_at other) ds
      → cond (is_at other (cond b (record d { version = version; text = text }) d)) (Some (cond b (record d { version = version; text = text }) d)) rest
      ≡ cond (is_at other d) (Some d) (find (is_at other) ds)
  by_test true e later =
      let off : is_at other d ≡ false = ap (λ p. bytes_eq p other) ((bytes_eq-Decides d.path path).0 e) ∙ apart in
      ap (λ b. cond b (Some (record d { version = version; text = text })) rest) off ∙ later ∙ sym (ap (λ b. cond b (Some d) (find (is_at other) ds)) off)
  by_test false e later = ap (cond (is_at other d) (Some d)) later

closed_elsewhere : (path other : List ℕ) (documents : List OpenDocument) → bytes_eq path other ≡ false
    → find (is_at other) (filter (λ d. not (is_at path d)) documents) ≡ find (is_at other) documents
closed_elsewhere path other [] apart = refl
closed_elsewhere path other (d ∷ ds) apart = by_test (is_at path d) refl (closed_elsewhere path other ds apart) where
  rest : List OpenDocument
  rest = filter (λ d. not (is_at path d)) ds

  by_test : (b : Bool) → is_at path d ≡ b → find (is_at other) rest ≡ find (is_at other) ds
      → find (is_at other) (cond (not b) (d ∷ rest) rest) ≡ cond (is_at other d) (Some d) (find (is_at other) ds)
  by_test true e later =
      let off : is_at other d ≡ false = ap (λ p. bytes_eq p other) ((bytes_eq-Decides d.path path).0 e) ∙ apart in
      later ∙ sym (ap (λ b. cond b (Some d) (find (is_at other) ds)) off)
  by_test false e later = ap (cond (is_at other d) (Some d)) later

pub library_changed : (folders : List Folder) (store : Store) (path text : List ℕ) (version : ℤ) → is_member folders path ≡ false
    → IsSameLibrary folders store (with_text store path version text)
library_changed folders store path text version outside =
    same_paths folders store (with_text store path version text) refl
    (λ other inside. changed_elsewhere path other version text store.documents (differs folders path other outside inside)) (λ other. refl)

pub library_closed : (folders : List Folder) (store : Store) (path : List ℕ) → is_member folders path ≡ false → IsSameLibrary folders store (without store path)
library_closed folders store path outside =
    same_paths folders store (without store path) refl
    (λ other inside. closed_elsewhere path other store.documents (differs folders path other outside inside)) (λ other. refl)

-- ---- documents that are opened

opened_elsewhere : {X : Type 0} (test : X → Bool) (xs : List X) (x : X) → test x ≡ false → find test (xs ++ x ∷ []) ≡ find test xs
opened_elsewhere test [] x off = ap (λ b. cond b (Some x) None) off
opened_elsewhere test (y ∷ ys) x off = ap (cond (test y) (Some y)) (opened_elsewhere test ys x off)

-- of two numbers the next come in the same order
lt_next : (a b : ℕ) → nat_lt (1 + a) (suc b) ≡ nat_lt a b
lt_next a b = grind arith

lt_first : (n : ℕ) → nat_lt 0 (suc n) ≡ true
lt_first n = grind arith

position_next : {X : Type 0} (test : X → Bool) (x : X) (xs : List X) → position test (x ∷ xs) ≡ cond (test x) (Some 0) (option_map (λ n. 1 + n) (position test xs))
position_next test x xs = by_test (test x) where
  by_place : (b : Bool) (n : ℕ) → cond b (Some (1 + n)) None ≡ option_map (λ m. 1 + m) (cond b (Some n) None)
  by_place true n = refl
  by_place false n = refl

  by_test : (b : Bool) → cond (nat_lt (cond (not b) (1 + position_or_len test xs) 0) (suc (length xs))) (Some (cond (not b) (1 + position_or_len test xs) 0)) None
      ≡ cond b (Some 0) (option_map (λ n. 1 + n) (position test xs))
  by_test true = ap (λ b. cond b (Some 0) None) (lt_first (length xs))
  by_test false =
      ap (λ b. cond b (Some (1 + position_or_len test xs)) None) (lt_next (position_or_len test xs) (length xs))
      ∙ by_place (nat_lt (position_or_len test xs) (length xs)) (position_or_len test xs)

position_before : {X : Type 0} (test : X → Bool) (xs : List X) (x : X) → test x ≡ false → position test (xs ++ x ∷ []) ≡ position test xs
position_before test [] x off = position_next test x [] ∙ ap (λ b. cond b (Some 0) None) off
position_before test (y ∷ ys) x off =
    position_next test y (ys ++ x ∷ []) ∙ ap (λ n. cond (test y) (Some 0) (option_map (λ m. 1 + m) n)) (position_before test ys x off) ∙ sym (position_next test y ys)

none_kept : (files : List (Option File)) (n : ℕ) → slice_index_or (files ++ None ∷ []) n None ≡ slice_index_or files n None
none_kept [] zero = refl
none_kept [] (suc n) = refl
none_kept (file ∷ files) zero = refl
none_kept (file ∷ files) (suc n) = none_kept files n

alike : {X Y : Type 0} (f g : X → Option Y) (o : Option X) → ((x : X) → f x ≡ g x) → option_and_then f o ≡ option_and_then g o
alike f g None same = refl
alike f g (Some x) same = same x

-- a new path gets a place for its file, in which nothing is kept
same_file : (paths : List (List ℕ)) (files : List (Option File)) (path other : List ℕ) → bytes_eq other path ≡ false → (b : Bool)
    → option_and_then (λ n. slice_index_or (cond b files (files ++ None ∷ [])) n None) (position (bytes_eq other) (cond b paths (paths ++ path ∷ [])))
    ≡ option_and_then (λ n. slice_index_or files n None) (position (bytes_eq other) paths)
same_file paths files path other apart true = refl
same_file paths files path other apart false =
    ap (option_and_then (λ n. slice_index_or (files ++ None ∷ []) n None)) (position_before (bytes_eq other) paths path apart)
    ∙ alike (λ n. slice_index_or (files ++ None ∷ []) n None) (λ n. slice_index_or files n None) (position (bytes_eq other) paths) (none_kept files)

pub library_opened : (folders : List Folder) (store : Store) (document : OpenDocument) → is_member folders document.path ≡ false
    → IsSameLibrary folders store (with_document store document)
library_opened folders store document outside = record {
  more = cond is_known [] (document.path ∷ []);
  paths = paths is_known;
  outside = further is_known;
  present_is = λ path inside. same_present store (with_document store document) path (opens path inside)
      (same_file store.paths store.files document.path path (differs_back folders document.path path outside inside) is_known);
  uri_is = λ path inside. same_uri store (with_document store document) path (opens path inside);
} where
  is_known : Bool
  is_known = list_any (bytes_eq document.path) store.paths

  paths : (b : Bool) → cond b store.paths (store.paths ++ document.path ∷ []) ≡ store.paths ++ cond b [] (document.path ∷ [])
  paths true = sym (append-nil store.paths)
  paths false = refl

  one_further : (path : List ℕ) (k : ℕ) → k < 1 → slice_index_or (document.path ∷ []) k path ≡ path → is_member folders path ≡ false
  one_further path zero within is = ap (is_member folders) (sym is) ∙ outside
  one_further path (suc k) within is = absurd (let h = within in omega arith)

  further : (b : Bool) (path : List ℕ) → Contains (cond b [] (document.path ∷ [])) path → is_member folders path ≡ false
  further true path at = no_further folders path at
  further false path at = one_further path at.0 at.1 at.2

  opens : (path : List ℕ) → is_member folders path ≡ true → document_of (with_document store document) path ≡ document_of store path
  opens path inside = opened_elsewhere (is_at path) store.documents document (differs folders document.path path outside inside)
