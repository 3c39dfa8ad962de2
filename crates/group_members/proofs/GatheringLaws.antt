-- An index that has one path more.
use Rattle.std.proofs.Common.{◌≡◌, ◌∙◌, ℕ, ◌+◌, Bool, true, false, cond, ◌&&◌, List, [], ◌∷◌, ◌++◌, take, Option, Some, None, refl, sym, ap, subst, zero, suc, slice_get, append-nil, if◌then◌else◌}
use Rattle.std.specs.Prelude.{filter, is_some, fold, IsUtf8, chars, encode_utf8_all, slice_index_or}
use Rattle.std.specs.List.{AllByRecursion}
use Rattle.std.specs.Option.{option_and_then}
use Rattle.std.specs.Bool.{one_answer}
use Rattle.std.specs.Str.{bytes_eq}
use Rattle.std.proofs.lemmas.List.{take_more}
use Rattle.std.proofs.lemmas.List.Elements.{filter-append, recursion_from_All}
use Rattle.std.proofs.lemmas.Option.{none-some, slice_get_within, get_or_from_slice_get, slice_get-get_or}
use Rattle.std.proofs.lemmas.Slice.Eq.{bytes_eq-Decides}
use Rattle.std.proofs.lemmas.Str.{encodes-chars, chars_from_encodes}
use Rattle.member_paths.specs.Paths.{folder_of, file_name_of, member_name}
use Rattle.document_store.specs.Store.{Store, present, present_at, number_of, File, Readable, Unreadable}
use Rattle.document_store.specs.Shown.{PathsDiffer, IsPresent}
use Rattle.document_store.specs.declared.document.MemberText.{MemberText}
use Rattle.text_pool.specs.Pool.{Pool}
use Rattle.group_members.specs.Index.{number_in, put}
use Rattle.group_members.specs.Members.{is_name, is_file_of, is_there, is_before, first_of_two, first_path}
use Rattle.group_members.specs.Gathering.{number_among, IndexesFirst, goes_first}
use Rattle.group_members.specs.declared.index.MemberIndex.{MemberIndex}

-- ---- equal texts

bytes_eq-turned : (x y : List ℕ) → bytes_eq x y ≡ bytes_eq y x
bytes_eq-turned x y =
    let turned = bytes_eq-Decides y x in
    one_answer (bytes_eq x y) (bytes_eq y x) (bytes_eq-Decides x y) ((λ e. sym (turned.0 e)), (λ e. turned.1 (sym e)))

-- a folder by its bytes
same_folder : (bytes folder other : List ℕ) → IsUtf8 bytes → chars bytes ≡ other → bytes_eq bytes (encode_utf8_all folder) ≡ bytes_eq folder other
same_folder bytes folder other u is =
    let decides = bytes_eq-Decides bytes (encode_utf8_all folder) in
    one_answer (bytes_eq bytes (encode_utf8_all folder)) (bytes_eq folder other)
    ((λ e. chars_from_encodes folder bytes u (sym (decides.0 e)) ∙ is), (λ e. decides.1 (sym (ap encode_utf8_all (e ∙ sym is) ∙ encodes-chars bytes u))))
    (bytes_eq-Decides folder other)

-- ---- the first of paths

fold-push : {A B : Type 0} (f : B → A → B) (a : B) (xs : List A) (x : A) → fold f a (xs ++ x ∷ []) ≡ f (fold f a xs) x
fold-push f a [] x = refl
fold-push f a (y ∷ ys) x = fold-push f (f a y) ys x

-- the first of what came first and of one path more
abbrev pub joined : Option (List ℕ) → List ℕ → List ℕ
joined None path = path
joined (Some first) path = first_of_two first path

pub first_path-push : (xs : List (List ℕ)) (path : List ℕ) → first_path (xs ++ path ∷ []) ≡ Some (joined (first_path xs) path)
first_path-push [] path = refl
first_path-push (x ∷ xs) path = ap Some (fold-push first_of_two x xs path)

either : (P : List ℕ → Type 0) (b : Bool) (x y : List ℕ) → P x → P y → P (if b then x else y)
either P true x y h k = h
either P false x y h k = k

fold-picks : (P : List ℕ → Type 0) (a : List ℕ) (xs : List (List ℕ)) → P a → AllByRecursion P xs → P (fold first_of_two a xs)
fold-picks P a [] h all = h
fold-picks P a (x ∷ xs) h all = fold-picks P (first_of_two a x) xs (either P (is_before x a) x a all.0 h) all.1

-- the first of paths is one of them
pub first_path-picks : (P : List ℕ → Type 0) (xs : List (List ℕ)) (first : List ℕ) → AllByRecursion P xs → first_path xs ≡ Some first → P first
first_path-picks P [] first all e = absurd (none-some first e)
first_path-picks P (x ∷ xs) first all e =
    let is : fold first_of_two x xs ≡ first = cc in
    subst P is (fold-picks P x xs all.0 all.1)

-- ---- paths that are left out or not taken

pub All-filter : {X : Type 0} (P : X → Type 0) (t : X → Bool) (xs : List X) → AllByRecursion P xs → AllByRecursion P (filter t xs)
All-filter P t [] all = tt
All-filter P t (x ∷ xs) all = by (t x) (All-filter P t xs all.1)
  where
    by : (b : Bool) → AllByRecursion P (filter t xs) → AllByRecursion P (cond b (x ∷ filter t xs) (filter t xs))
    by true rest = (all.0, rest)
    by false rest = rest

pub All-take : {X : Type 0} (P : X → Type 0) (n : ℕ) (xs : List X) → AllByRecursion P xs → AllByRecursion P (take n xs)
All-take P zero xs all = tt
All-take P (suc n) [] all = tt
All-take P (suc n) (x ∷ xs) all = (all.0, All-take P n xs all.1)

-- a path has a place among others
abbrev pub HasPlace : List (List ℕ) → List ℕ → Type 0
HasPlace paths path = (number : ℕ) × (slice_get paths number ≡ Some path)

pub all_have_places : (paths : List (List ℕ)) → AllByRecursion (HasPlace paths) paths
all_have_places paths = recursion_from_All (HasPlace paths) paths (λ k d lt. (k, slice_get-get_or paths k d lt))

-- ---- what is present at a path

-- something is shown where something is present
is_some-shown : (pool : Pool) (asked : Option File) (shown : Option MemberText) → IsPresent pool asked shown → is_some asked ≡ is_some shown
is_some-shown pool None None h = refl
is_some-shown pool None (Some member) h = absurd h
is_some-shown pool (Some file) None h = none_shown file h
  where
    none_shown : (f : File) → IsPresent pool (Some f) None → true ≡ false
    none_shown (Readable text) h = absurd h
    none_shown Unreadable h = absurd h
is_some-shown pool (Some file) (Some member) h = refl

pub present-shown : (store : Store) (pool : Pool) (n : ℕ) (path : List ℕ) → slice_get store.paths n ≡ Some path → (shown : Option MemberText) →
    IsPresent pool (present_at store n) shown → is_some (present store path) ≡ is_some shown
present-shown store pool n path at shown h =
    ap (λ o. is_some (option_and_then (present store) o)) (sym at) ∙ is_some-shown pool (present_at store n) shown h

and_false : (b : Bool) → (b && false) ≡ false
and_false true = refl
and_false false = refl

-- no member is at a path where nothing is present
pub absent-skipped : (store : Store) (path : List ℕ) → is_some (present store path) ≡ false → (folder name : List ℕ) → is_there store folder name path ≡ false
absent-skipped store path none folder name = ap (λ b. is_file_of folder name path && b) none ∙ and_false (is_file_of folder name path)

-- nor where the file gives no name
pub nameless-skipped : (store : Store) (path : List ℕ) → member_name (file_name_of path) ≡ None → (folder name : List ℕ) → is_there store folder name path ≡ false
nameless-skipped store path none folder name =
    ap (λ m. (bytes_eq folder (folder_of path) && is_name name m) && is_some (present store path)) none
    ∙ ap (λ b. b && is_some (present store path)) (and_false (bytes_eq folder (folder_of path)))

-- ---- one path more

module _ (store : Store) (n : ℕ) (path : List ℕ) (at : slice_get store.paths n ≡ Some path) where
  next : take (n + 1) store.paths ≡ take n store.paths ++ path ∷ []
  next =
      take_more store.paths n [] (slice_get_within store.paths n path at)
      ∙ ap (λ p. take n store.paths ++ p ∷ []) (get_or_from_slice_get store.paths n path [] at)

  files : (folder name : List ℕ) (b : Bool) → is_there store folder name path ≡ b →
      filter (is_there store folder name) (take (n + 1) store.paths) ≡ filter (is_there store folder name) (take n store.paths) ++ cond b (path ∷ []) []
  files folder name b e =
      ap (filter (is_there store folder name)) next
      ∙ filter-append (is_there store folder name) (take n store.paths) (path ∷ [])
      ∙ ap (λ c. filter (is_there store folder name) (take n store.paths) ++ cond c (path ∷ []) []) e

  -- a path that is no file of a member changes nothing
  other : (folder name : List ℕ) → is_there store folder name path ≡ false → number_among store (take (n + 1) store.paths) folder name ≡ number_among store (take n store.paths) folder name
  other folder name e =
      ap (λ xs. option_and_then (number_of store.paths) (first_path xs)) (files folder name false e ∙ append-nil (filter (is_there store folder name) (take n store.paths)))

  pub IndexesFirst-skipped : (index : MemberIndex) → ((folder name : List ℕ) → is_there store folder name path ≡ false) → IndexesFirst store n index → IndexesFirst store (n + 1) index
  IndexesFirst-skipped index none before = λ folder name. before folder name ∙ sym (other folder name (none folder name))

  module _ (differ : PathsDiffer store.paths) where
    number : number_of store.paths path ≡ Some n
    number = differ n path at

    -- the first so far or the path
    picked : (first : Option (List ℕ)) → ((y : List ℕ) → first ≡ Some y → HasPlace store.paths y) →
        number_of store.paths (joined first path)
        ≡ (if goes_first store.paths (option_and_then (number_of store.paths) first) path then Some n else option_and_then (number_of store.paths) first)
    picked None places = number
    picked (Some y) places =
        let place = places y refl in
        let own : number_of store.paths y ≡ Some place.0 = differ place.0 y place.1 in
        let text : slice_index_or store.paths place.0 [] ≡ y = get_or_from_slice_get store.paths place.0 y [] place.1 in
        by (is_before path y) place.0 own (ap (is_before path) text)
      where
        by : (b : Bool) (k : ℕ) → number_of store.paths y ≡ Some k → is_before path (slice_index_or store.paths k []) ≡ b →
            number_of store.paths (if b then path else y)
            ≡ (if goes_first store.paths (number_of store.paths y) path then Some n else number_of store.paths y)
        by true k own before = number ∙ sym (ap (λ o. if goes_first store.paths o path then Some n else o) own ∙ ap (λ c. if c then Some n else Some k) before)
        by false k own before = own ∙ sym (ap (λ o. if goes_first store.paths o path then Some n else o) own ∙ ap (λ c. if c then Some n else Some k) before)

    found : (folder name : List ℕ) → is_there store folder name path ≡ true →
        number_among store (take (n + 1) store.paths) folder name
        ≡ (if goes_first store.paths (number_among store (take n store.paths) folder name) path then Some n else number_among store (take n store.paths) folder name)
    found folder name e =
        let xs = filter (is_there store folder name) (take n store.paths) in
        ap (λ ys. option_and_then (number_of store.paths) (first_path ys)) (files folder name true e)
        ∙ ap (option_and_then (number_of store.paths)) (first_path-push xs path)
        ∙ picked (first_path xs)
        (λ y is. first_path-picks (HasPlace store.paths) xs y
        (All-filter (HasPlace store.paths) (is_there store folder name) (take n store.paths) (All-take (HasPlace store.paths) n store.paths (all_have_places store.paths))) is)

    module _ (own : List ℕ) (named : member_name (file_name_of path) ≡ Some own) (there : is_some (present store path) ≡ true)
        (bytes : List ℕ) (utf8 : IsUtf8 bytes) (spelled : chars bytes ≡ folder_of path) where
      tested : (folder name : List ℕ) → is_there store folder name path ≡ (bytes_eq folder (folder_of path) && bytes_eq name own)
      tested folder name =
          ap (λ m. (bytes_eq folder (folder_of path) && is_name name m) && is_some (present store path)) named
          ∙ ap (λ b. (bytes_eq folder (folder_of path) && bytes_eq name own) && b) there
          ∙ and_true (bytes_eq folder (folder_of path) && bytes_eq name own)
        where
          and_true : (b : Bool) → (b && true) ≡ b
          and_true true = refl
          and_true false = refl

      before_own : (index : MemberIndex) → IndexesFirst store n index → (folder name : List ℕ) → bytes_eq folder (folder_of path) ≡ true → bytes_eq name own ≡ true →
          number_in index bytes own ≡ number_among store (take n store.paths) folder name
      before_own index before folder name f m =
          let is_folder : folder ≡ folder_of path = (bytes_eq-Decides folder (folder_of path)).0 f in
          let is_name : name ≡ own = (bytes_eq-Decides name own).0 m in
          let is_bytes : encode_utf8_all folder ≡ bytes = ap encode_utf8_all (is_folder ∙ sym spelled) ∙ encodes-chars bytes utf8 in
          ap (λ key. number_in index key own) (sym is_bytes) ∙ ap (number_in index (encode_utf8_all folder)) (sym is_name) ∙ before folder name

      -- a path that does not go first changes nothing
      pub IndexesFirst-kept : (index : MemberIndex) → goes_first store.paths (number_in index bytes own) path ≡ false → IndexesFirst store n index → IndexesFirst store (n + 1) index
      IndexesFirst-kept index later before = λ folder name. before folder name ∙ sym (by folder name (bytes_eq folder (folder_of path)) (bytes_eq name own) refl refl)
        where
          by : (folder name : List ℕ) (f m : Bool) → bytes_eq folder (folder_of path) ≡ f → bytes_eq name own ≡ m →
              number_among store (take (n + 1) store.paths) folder name ≡ number_among store (take n store.paths) folder name
          by folder name true true ef em =
              found folder name (tested folder name ∙ ap (λ b. b && bytes_eq name own) ef ∙ em)
              ∙ ap (λ b. if b then Some n else number_among store (take n store.paths) folder name)
              (ap (λ o. goes_first store.paths o path) (sym (before_own index before folder name ef em)) ∙ later)
          by folder name true false ef em = other folder name (tested folder name ∙ ap (λ b. b && bytes_eq name own) ef ∙ em)
          by folder name false m ef em = other folder name (tested folder name ∙ ap (λ b. b && bytes_eq name own) ef)

      -- one that does is put
      pub IndexesFirst-put : (old new : MemberIndex) → ((f m : List ℕ) → number_in new f m ≡ put bytes own n (number_in old) f m) →
          goes_first store.paths (number_in old bytes own) path ≡ true → IndexesFirst store n old → IndexesFirst store (n + 1) new
      IndexesFirst-put old new puts first before = λ folder name.
          puts (encode_utf8_all folder) name ∙ by folder name (bytes_eq folder (folder_of path)) (bytes_eq name own) refl refl
        where
          keys : (folder name : List ℕ) → put bytes own n (number_in old) (encode_utf8_all folder) name
              ≡ (if bytes_eq folder (folder_of path) && bytes_eq name own then Some n else number_among store (take n store.paths) folder name)
          keys folder name =
              ap (λ b. if b && bytes_eq own name then Some n else number_in old (encode_utf8_all folder) name) (same_folder bytes folder (folder_of path) utf8 spelled)
              ∙ ap (λ b. if bytes_eq folder (folder_of path) && b then Some n else number_in old (encode_utf8_all folder) name) (bytes_eq-turned own name)
              ∙ ap (λ o. if bytes_eq folder (folder_of path) && bytes_eq name own then Some n else o) (before folder name)

          by : (folder name : List ℕ) (f m : Bool) → bytes_eq folder (folder_of path) ≡ f → bytes_eq name own ≡ m →
              put bytes own n (number_in old) (encode_utf8_all folder) name ≡ number_among store (take (n + 1) store.paths) folder name
          by folder name true true ef em =
              keys folder name
              ∙ ap (λ b. if b && bytes_eq name own then Some n else number_among store (take n store.paths) folder name) ef
              ∙ ap (λ b. if b then Some n else number_among store (take n store.paths) folder name) em
              ∙ sym (found folder name (tested folder name ∙ ap (λ b. b && bytes_eq name own) ef ∙ em)
              ∙ ap (λ b. if b then Some n else number_among store (take n store.paths) folder name)
              (ap (λ o. goes_first store.paths o path) (sym (before_own old before folder name ef em)) ∙ first))
          by folder name true false ef em =
              keys folder name
              ∙ ap (λ b. if b && bytes_eq name own then Some n else number_among store (take n store.paths) folder name) ef
              ∙ ap (λ b. if b then Some n else number_among store (take n store.paths) folder name) em
              ∙ sym (other folder name (tested folder name ∙ ap (λ b. b && bytes_eq name own) ef ∙ em))
          by folder name false m ef em =
              keys folder name
              ∙ ap (λ b. if b && bytes_eq name own then Some n else number_among store (take n store.paths) folder name) ef
              ∙ sym (other folder name (tested folder name ∙ ap (λ b. b && bytes_eq name own) ef))
