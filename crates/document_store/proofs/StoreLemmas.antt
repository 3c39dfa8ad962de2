-- A store after a document came, changed or went.
use Rattle.std.proofs.Common.{◌≡◌, ◌∙◌, ℕ, ℤ, zero, suc, ◌+◌, ◌<◌, ◌≤◌, ◌^◌, Bool, true, false, not, cond, List, [], ◌∷◌, ◌++◌, length, take, drop, get_or, set, map, refl, sym, inl, inr, ap, subst, arith, lit≤, Some, None, Option}
use Rattle.std.specs.Prelude.{count_by, filter, find, position, slice_get, is_some, nat_le, Result, Ok, Err}
use Rattle.std.specs.List.{remove}
use Rattle.std.specs.Option.{option_map}
use Rattle.std.specs.Str.{bytes_eq}
use Rattle.std.specs.FinMap as finite
use Rattle.std.specs.declared.string.String.{String}
use Rattle.std.specs.declared.alloc.Global.{Global}
use Rattle.std.proofs.lemmas.Bool.{cases_Bool, le-leb, lt-leb}
use Rattle.std.proofs.lemmas.List.{map-append, length-map}
use Rattle.std.proofs.lemmas.List.Elements.{filter-append}
use Rattle.std.proofs.lemmas.List.Folds.{find_at}
use Rattle.std.proofs.lemmas.Option.{slice_get-map, slice_get-get_or}
use Rattle.std.proofs.lemmas.List.Quantifiers.{position-Some}
use Rattle.std.proofs.lemmas.List.Sums.{sum_by-cons, sum_by-append, sum_by_push, sum_by-set, sum_by-remove}
use Rattle.std.proofs.lemmas.Slice.Eq.{bytes_eq-Decides}
use Rattle.text_pool.specs.Pool.{Pool, text_of, owners_of, IsInterned}
use Rattle.text_pool.proofs.CallerLemmas.{IsInterned-text}
use Rattle.document_store.specs.Store.{Store, OpenDocument, number_of, is_at, document_of}
use Rattle.document_store.specs.Holdings.{Holdings}
use Rattle.document_store.specs.Changes.{with_path, beside_path, MayOpen}
use Rattle.document_store.specs.Edits.{is_too_long}
use Rattle.document_store.specs.declared.limits.TheConstants.{MOST_DOCUMENTS}
use Rattle.document_store.specs.declared.fault.StoreFault.{StoreFault}
use Rattle.document_store.specs.declared.fault.StoreFault.TheVariants.{AlreadyOpen, TextTooLong, TooMany}
use Rattle.document_store.specs.Shown.{PathsDiffer}
use Rattle.document_store.specs.Inside.{document_in, file_in, paths_in, holdings_of, is_kept_at, has_text, reads_text, AreNumbered, AreApart, AreOwned, AreWithin, IsKept, TextsStay}
use Rattle.document_store.specs.declared.document.MemberText.{MemberText}
use Rattle.document_store.specs.declared.members.Totals.{Totals}
use Rattle.document_store.specs.declared.kept.KeptDocument.{KeptDocument}
use Rattle.document_store.proofs.OwnerLemmas.{one_at, one_at-same, IsReleased, owners_of-interned, owners_of-released, text_of-interned, text_of-released, owners_of-none}
use Rattle.document_store.proofs.DocumentLemmas.{bit, is_some-find, position-first, position_alike, count-none, filter-none, map-none, cut_at, set_at, parts-none, number_of-behind}
use Rattle.document_store.proofs.PathLemmas.{PathsDiffer-with_path, length-beside_path, length-paths_in}
use Rattle.document_store.proofs.FileLemmas.{reads-beside, files_stay, AreWithin-same, AreWithin-beside}

-- ---- numbers

pub AreNumbered-append : (paths : List (List ℕ)) (xs ys : List KeptDocument) → AreNumbered paths xs → AreNumbered paths ys → AreNumbered paths (xs ++ ys)
AreNumbered-append paths [] ys first second = second
AreNumbered-append paths (x ∷ xs) ys first second = (first.0, AreNumbered-append paths xs ys first.1 second)

AreNumbered-front : (paths : List (List ℕ)) (xs ys : List KeptDocument) → AreNumbered paths (xs ++ ys) → AreNumbered paths xs
AreNumbered-front paths [] ys all = tt
AreNumbered-front paths (x ∷ xs) ys all = (all.0, AreNumbered-front paths xs ys all.1)

AreNumbered-back : (paths : List (List ℕ)) (xs ys : List KeptDocument) → AreNumbered paths (xs ++ ys) → AreNumbered paths ys
AreNumbered-back paths [] ys all = all
AreNumbered-back paths (x ∷ xs) ys all = AreNumbered-back paths xs ys all.1

AreNumbered-behind : (paths more : List (List ℕ)) (xs : List KeptDocument) → AreNumbered paths xs → AreNumbered (paths ++ more) xs
AreNumbered-behind paths more [] all = tt
AreNumbered-behind paths more (x ∷ xs) all = (number_of-behind paths more x.path x.number.0 all.0, AreNumbered-behind paths more xs all.1)

pub with_path-numbered : (b : Bool) (paths : List (List ℕ)) (path : List ℕ) (xs : List KeptDocument) → AreNumbered paths xs →
    AreNumbered (cond b paths (paths ++ path ∷ [])) xs
with_path-numbered true paths path xs all = all
with_path-numbered false paths path xs all = AreNumbered-behind paths (path ∷ []) xs all

-- a document has the number of its path
pub number-at : (paths : List (List ℕ)) (xs : List KeptDocument) (i : ℕ) (kept : KeptDocument) → AreNumbered paths xs → slice_get xs i ≡ Some kept →
    number_of paths kept.path ≡ Some kept.number.0
number-at paths [] i kept all found = absurd (cc)
number-at paths (x ∷ xs) zero kept all found =
    let same : x ≡ kept = cc in subst (λ (k : KeptDocument). number_of paths k.path ≡ Some k.number.0) same all.0
number-at paths (x ∷ xs) (suc i) kept all found = number-at paths xs i kept all.1 found

-- ---- texts

same_document : (p q : Pool) (kept : KeptDocument) → text_of q kept.text.0 ≡ text_of p kept.text.0 → document_in q kept ≡ document_in p kept
same_document p q kept same = λ i. record { path = kept.path; uri = kept.uri; language = kept.language; version = kept.version; text = same i }

-- the texts of documents, and of files, are what they were
abbrev pub DocumentTextsStay : Pool → Pool → List KeptDocument → Type 0
DocumentTextsStay p q documents = TextsStay p q (λ id. count_by (has_text id) documents)

abbrev pub FileTextsStay : Pool → Pool → List (Option MemberText) → Type 0
FileTextsStay p q files = TextsStay p q (λ id. count_by (reads_text id) files)

has_own : (kept : KeptDocument) (xs : List KeptDocument) → 0 < count_by (has_text kept.text.0) (kept ∷ xs)
has_own kept xs =
    let whole : count_by (has_text kept.text.0) (kept ∷ xs) ≡ one_at kept.text.0 kept.text.0 + count_by (has_text kept.text.0) xs = sum_by-cons (λ y. cond (has_text kept.text.0 y) 1 0) kept xs in
    let one : one_at kept.text.0 kept.text.0 ≡ 1 = one_at-same kept.text.0 kept.text.0 refl in
    omega arith

has_more : (id : ℕ) (kept : KeptDocument) (xs : List KeptDocument) → 0 < count_by (has_text id) xs → 0 < count_by (has_text id) (kept ∷ xs)
has_more id kept xs some =
    let whole : count_by (has_text id) (kept ∷ xs) ≡ one_at kept.text.0 id + count_by (has_text id) xs = sum_by-cons (λ y. cond (has_text id y) 1 0) kept xs in
    omega arith

-- documents whose texts stay are what they were
pub documents_stay : (p q : Pool) (xs : List KeptDocument) → DocumentTextsStay p q xs → map (document_in q) xs ≡ map (document_in p) xs
documents_stay p q [] texts = refl
documents_stay p q (x ∷ xs) texts =
    let head : document_in q x ≡ document_in p x = same_document p q x (texts.stay x.text.0 (has_own x xs)) in
    let tail : map (document_in q) xs ≡ map (document_in p) xs = documents_stay p q xs (record { stay = λ id some. texts.stay id (has_more id x xs some) }) in
    ap (λ d. d ∷ map (document_in q) xs) head ∙ ap (λ ds. document_in p x ∷ ds) tail

-- ---- a document by its path

pub position_of-documents : (path : List ℕ) (pool : Pool) (xs : List KeptDocument) → position (is_at path) (map (document_in pool) xs) ≡ position (is_kept_at path) xs
position_of-documents path pool xs = position_alike (is_kept_at path) (is_at path) (document_in pool) (λ _. refl) xs

none_from : {X : Type 0} (o : Option X) → is_some o ≡ false → o ≡ None
none_from None none = refl
none_from (Some x) none = absurd (cc)

is_some-documents : (path : List ℕ) (pool : Pool) (xs : List KeptDocument) → is_some (find (is_at path) (map (document_in pool) xs)) ≡ is_some (position (is_kept_at path) xs)
is_some-documents path pool xs =
    is_some-find (is_at path) (map (document_in pool) xs) (position (is_at path) (map (document_in pool) xs)) refl
    ∙ ap is_some (position_of-documents path pool xs)

-- where no document of a path is open, none is kept
pub absent_from : (path : List ℕ) (pool : Pool) (xs : List KeptDocument) → find (is_at path) (map (document_in pool) xs) ≡ None → find (is_kept_at path) xs ≡ None
absent_from path pool xs none =
    none_from (find (is_kept_at path) xs)
    (is_some-find (is_kept_at path) xs (position (is_kept_at path) xs) refl ∙ sym (is_some-documents path pool xs) ∙ ap is_some none)

-- where none is kept, none is open
pub absent_to : (path : List ℕ) (pool : Pool) (xs : List KeptDocument) → position (is_kept_at path) xs ≡ None → find (is_at path) (map (document_in pool) xs) ≡ None
absent_to path pool xs none =
    none_from (find (is_at path) (map (document_in pool) xs)) (is_some-documents path pool xs ∙ ap is_some none)

-- the open document of a path is the one that is kept
pub document_to : (path : List ℕ) (pool : Pool) (xs : List KeptDocument) (at : ℕ) (kept : KeptDocument) → position (is_kept_at path) xs ≡ Some at →
    kept ≡ get_or xs at kept → find (is_at path) (map (document_in pool) xs) ≡ Some (document_in pool kept)
document_to path pool xs at kept found here =
    let place : position (is_at path) (map (document_in pool) xs) ≡ Some at = position_of-documents path pool xs ∙ found in
    let within : at < length xs = (position-Some (is_kept_at path) xs at kept found).0 in
    find_at (is_at path) (map (document_in pool) xs)
    ∙ ap (slice_get (map (document_in pool) xs)) (position-first (is_at path) (map (document_in pool) xs) at (document_in pool kept) place)
    ∙ slice_get-map (document_in pool) xs at
    ∙ ap (option_map (document_in pool)) (slice_get-get_or xs at kept within ∙ ap Some (sym here))

-- ---- opening

map-beside : {X Y : Type 0} (f : X → Y) (b : Bool) (xs : List X) (x : X) → map f (cond b xs (xs ++ x ∷ [])) ≡ cond b (map f xs) (map f xs ++ f x ∷ [])
map-beside f true xs x = refl
map-beside f false xs x = map-append f xs (x ∷ [])

-- the parts of a store after a document was put behind
module _ (keys later : List (String Global)) (files after : List (Option MemberText)) (xs : List KeptDocument) (kept : KeptDocument) (pool new : Pool) (text : List ℕ)
    (old : IsKept keys files xs pool) (entered : paths_in later ≡ with_path (paths_in keys) kept.path)
    (beside : after ≡ beside_path (paths_in keys) kept.path files None) (absent : find (is_kept_at kept.path) xs ≡ None)
    (number : number_of (paths_in later) kept.path ≡ Some kept.number.0) (few : length later ≤ 2 ^ 32)
    (interned : IsInterned pool new text kept.text.0) where
  opened_count : (path : List ℕ) → count_by (is_kept_at path) (xs ++ kept ∷ []) ≡ count_by (is_kept_at path) xs + bit (bytes_eq kept.path path)
  opened_count path = sum_by_push (λ y. cond (is_kept_at path y) 1 0) xs kept

  opened_apart : AreApart (xs ++ kept ∷ [])
  opened_apart path = elim (cases_Bool (bytes_eq kept.path path)) [
    | inl same ↦
        let is : kept.path ≡ path = (bytes_eq-Decides kept.path path).0 same in
        let none : count_by (is_kept_at kept.path) xs ≡ 0 = count-none (is_kept_at kept.path) xs absent in
        let here : count_by (is_kept_at path) xs ≡ 0 = ap (λ p. count_by (is_kept_at p) xs) (sym is) ∙ none in
        let one : bit (bytes_eq kept.path path) ≡ 1 = ap bit same in
        omega (arith, opened_count path)
    | inr other ↦
        let none : bit (bytes_eq kept.path path) ≡ 0 = ap bit other in
        omega (arith, opened_count path, old.apart path)
  ]

  opened_reads : (id : ℕ) → count_by (reads_text id) after ≡ count_by (reads_text id) files
  opened_reads id = ap (count_by (reads_text id)) beside ∙ reads-beside id _ files

  opened_owned : AreOwned new after (xs ++ kept ∷ [])
  opened_owned id =
      let count : count_by (has_text id) (xs ++ kept ∷ []) ≡ count_by (has_text id) xs + one_at kept.text.0 id = sum_by_push (λ y. cond (has_text id y) 1 0) xs kept in
      let owners : owners_of new id ≡ owners_of pool id + one_at kept.text.0 id = owners_of-interned pool new text kept.text.0 interned id in
      let before : owners_of pool id ≡ count_by (has_text id) xs + count_by (reads_text id) files = old.owned id in
      let reads : count_by (reads_text id) after ≡ count_by (reads_text id) files = opened_reads id in
      omega arith

  opened_filed : length after ≡ length later
  opened_filed =
      ap length beside
      ∙ length-beside_path (paths_in keys) kept.path files None (old.filed ∙ sym (length-paths_in keys))
      ∙ ap length (sym entered)
      ∙ length-paths_in later

  pub IsKept-opened : IsKept later after (xs ++ kept ∷ []) new
  IsKept-opened = record {
    numbered = AreNumbered-append (paths_in later) xs (kept ∷ [])
        (subst (λ (ps : List (List ℕ)). AreNumbered ps xs) (sym entered) (with_path-numbered _ (paths_in keys) kept.path xs old.numbered))
        (number, tt);
    apart = opened_apart;
    owned = opened_owned;
    few = few;
    differ = subst PathsDiffer (sym entered) (PathsDiffer-with_path (paths_in keys) kept.path old.differ);
    filed = opened_filed;
  }

  pub opened_documents : map (document_in new) (xs ++ kept ∷ []) ≡ map (document_in pool) xs ++ (record { path = kept.path; uri = kept.uri; language = kept.language; version = kept.version; text = text }) ∷ []
  opened_documents =
      let stay : DocumentTextsStay pool new xs = record {
        stay = λ id some.
            let before : owners_of pool id ≡ count_by (has_text id) xs + count_by (reads_text id) files = old.owned id in
            text_of-interned pool new text kept.text.0 interned id (omega arith);
      } in
      let here : text_of new kept.text.0 ≡ text = IsInterned-text pool new text kept.text.0 interned in
      let last : OpenDocument = record { path = kept.path; uri = kept.uri; language = kept.language; version = kept.version; text = text } in
      let is : document_in new kept ≡ last = λ i. record { path = kept.path; uri = kept.uri; language = kept.language; version = kept.version; text = here i } in
      map-append (document_in new) xs (kept ∷ [])
      ∙ ap (λ ds. ds ++ document_in new kept ∷ []) (documents_stay pool new xs stay)
      ∙ ap (λ d. map (document_in pool) xs ++ d ∷ []) is

  pub opened_files : map (file_in new) after ≡ beside_path (paths_in keys) kept.path (map (file_in pool) files) None
  opened_files =
      let stay : FileTextsStay pool new files = record {
        stay = λ id some.
            let before : owners_of pool id ≡ count_by (has_text id) xs + count_by (reads_text id) files = old.owned id in
            text_of-interned pool new text kept.text.0 interned id (omega arith);
      } in
      ap (map (file_in new)) beside
      ∙ map-beside (file_in new) _ files None
      ∙ ap (λ fs. beside_path (paths_in keys) kept.path fs None) (files_stay pool new files stay)

  pub opened_within : (totals : Totals) → AreWithin totals (map (file_in pool) files) → AreWithin totals (map (file_in new) after)
  opened_within totals within = AreWithin-same totals _ _ opened_files (AreWithin-beside totals _ (map (file_in pool) files) within)

-- ---- closing

pub record IsFound (path : List ℕ) (xs : List KeptDocument) (at : ℕ) (kept : KeptDocument) : Type 0 where
  pub within : at < length xs
  pub here : kept ≡ get_or xs at kept
  pub passes : is_kept_at path kept ≡ true

-- what stands at the place that was found
pub IsFound-from_position : (path : List ℕ) (xs : List KeptDocument) (at : ℕ) (kept : KeptDocument) → position (is_kept_at path) xs ≡ Some at →
    kept ≡ get_or xs at kept → IsFound path xs at kept
IsFound-from_position path xs at kept found here =
    let first = position-Some (is_kept_at path) xs at kept found in
    record { within = first.0; here = here; passes = ap (is_kept_at path) here ∙ first.1 }

module _ (path : List ℕ) (keys : List (String Global)) (files : List (Option MemberText)) (xs : List KeptDocument) (at : ℕ) (kept : KeptDocument) (pool : Pool)
    (old : IsKept keys files xs pool) (found : IsFound path xs at kept) where
  cut : xs ≡ take at xs ++ (kept ∷ drop (suc at) xs)
  cut = cut_at xs at kept found.within ∙ ap (λ k. take at xs ++ (k ∷ drop (suc at) xs)) (sym found.here)

  none_else : (count_by (is_kept_at path) (take at xs) ≡ 0) × (count_by (is_kept_at path) (drop (suc at) xs) ≡ 0)
  none_else = parts-none (is_kept_at path) xs (take at xs) (drop (suc at) xs) kept cut (old.apart path) found.passes

  -- the text of an open document has an owner
  pub owned_text : 0 < owners_of pool kept.text.0
  owned_text =
      let before : owners_of pool kept.text.0 ≡ count_by (has_text kept.text.0) xs + count_by (reads_text kept.text.0) files = old.owned kept.text.0 in
      let whole : count_by (has_text kept.text.0) xs ≡ count_by (has_text kept.text.0) (take at xs) + count_by (has_text kept.text.0) (kept ∷ drop (suc at) xs) =
      ap (count_by (has_text kept.text.0)) cut ∙ sum_by-append (λ y. cond (has_text kept.text.0 y) 1 0) (take at xs) (kept ∷ drop (suc at) xs) in
      let own : 0 < count_by (has_text kept.text.0) (kept ∷ drop (suc at) xs) = has_own kept (drop (suc at) xs) in
      omega arith

  -- the documents as those before, this one and those behind
  documents_cut : map (document_in pool) xs ≡ map (document_in pool) (take at xs) ++ (document_in pool kept ∷ map (document_in pool) (drop (suc at) xs))
  documents_cut = ap (map (document_in pool)) cut ∙ map-append (document_in pool) (take at xs) (kept ∷ drop (suc at) xs)

  module _ (new : Pool) (released : IsReleased pool new kept.text.0) where
    removed_count : (p : KeptDocument → Bool) → count_by p (remove xs at) + bit (p kept) ≡ count_by p xs
    removed_count p =
        ap (λ k. count_by p (remove xs at) + bit (p k)) found.here
        ∙ sum_by-remove (λ y. cond (p y) 1 0) xs at kept found.within

    closed_owned : AreOwned new files (remove xs at)
    closed_owned id =
        let left : owners_of new id + one_at kept.text.0 id ≡ owners_of pool id = owners_of-released pool new kept.text.0 released owned_text id in
        let count : count_by (has_text id) (remove xs at) + one_at kept.text.0 id ≡ count_by (has_text id) xs = removed_count (has_text id) in
        let before : owners_of pool id ≡ count_by (has_text id) xs + count_by (reads_text id) files = old.owned id in
        omega arith

    pub IsKept-closed : IsKept keys files (remove xs at) new
    IsKept-closed = record {
      numbered =
          let all = subst (λ (ks : List KeptDocument). AreNumbered (paths_in keys) ks) cut old.numbered in
          AreNumbered-append (paths_in keys) (take at xs) (drop (suc at) xs)
          (AreNumbered-front (paths_in keys) (take at xs) (kept ∷ drop (suc at) xs) all)
          (AreNumbered-back (paths_in keys) (take at xs) (kept ∷ drop (suc at) xs) all).1;
      apart = λ p. omega (arith, removed_count (is_kept_at p), old.apart p);
      owned = closed_owned;
      few = old.few;
      differ = old.differ;
      filed = old.filed;
    }

    closed_stay : DocumentTextsStay pool new (remove xs at)
    closed_stay = record {
      stay = λ id some.
          let left : owners_of new id ≡ count_by (has_text id) (remove xs at) + count_by (reads_text id) files = closed_owned id in
          text_of-released pool new kept.text.0 released owned_text id (omega arith);
    }

    pub closed_files : map (file_in new) files ≡ map (file_in pool) files
    closed_files = files_stay pool new files (record {
      stay = λ id some.
          let left : owners_of new id ≡ count_by (has_text id) (remove xs at) + count_by (reads_text id) files = closed_owned id in
          text_of-released pool new kept.text.0 released owned_text id (omega arith);
    })

    pub closed_documents : map (document_in new) (remove xs at) ≡ filter (λ d. not (is_at path d)) (map (document_in pool) xs)
    closed_documents =
        documents_stay pool new (remove xs at) closed_stay
        ∙ map-append (document_in pool) (take at xs) (drop (suc at) xs)
        ∙ sym (ap (filter (λ d. not (is_at path d))) documents_cut
        ∙ filter-append (λ d. not (is_at path d)) (map (document_in pool) (take at xs)) (document_in pool kept ∷ map (document_in pool) (drop (suc at) xs))
        ∙ ap (λ b. filter (λ d. not (is_at path d)) (map (document_in pool) (take at xs)) ++ cond (not b) (document_in pool kept ∷ filter (λ d. not (is_at path d)) (map (document_in pool) (drop (suc at) xs))) (filter (λ d. not (is_at path d)) (map (document_in pool) (drop (suc at) xs)))) found.passes
        ∙ ap (λ ds. ds ++ filter (λ d. not (is_at path d)) (map (document_in pool) (drop (suc at) xs))) (filter-none (is_kept_at path) (is_at path) (document_in pool) (λ _. refl) (take at xs) none_else.0)
        ∙ ap (λ ds. map (document_in pool) (take at xs) ++ ds) (filter-none (is_kept_at path) (is_at path) (document_in pool) (λ _. refl) (drop (suc at) xs) none_else.1))

  -- ---- changing
  module _ (middle new : Pool) (text : List ℕ) (written : KeptDocument)
      (interned : IsInterned pool middle text written.text.0) (released : IsReleased middle new kept.text.0)
      (path_same : written.path ≡ kept.path) (number_same : written.number ≡ kept.number) where
    written_count : (p : KeptDocument → Bool) → count_by p (set xs at written) + bit (p kept) ≡ count_by p xs + bit (p written)
    written_count p =
        ap (λ k. count_by p (set xs at written) + bit (p k)) found.here
        ∙ sum_by-set (λ y. cond (p y) 1 0) xs at written kept found.within

    middle_owned : 0 < owners_of middle kept.text.0
    middle_owned = omega (arith, owned_text, owners_of-interned pool middle text written.text.0 interned kept.text.0)

    changed_owned : AreOwned new files (set xs at written)
    changed_owned id =
        let more : owners_of middle id ≡ owners_of pool id + one_at written.text.0 id = owners_of-interned pool middle text written.text.0 interned id in
        let left : owners_of new id + one_at kept.text.0 id ≡ owners_of middle id = owners_of-released middle new kept.text.0 released middle_owned id in
        let count : count_by (has_text id) (set xs at written) + one_at kept.text.0 id ≡ count_by (has_text id) xs + one_at written.text.0 id = written_count (has_text id) in
        let before : owners_of pool id ≡ count_by (has_text id) xs + count_by (reads_text id) files = old.owned id in
        omega arith

    changed_apart : AreApart (set xs at written)
    changed_apart p =
        let same : bit (is_kept_at p written) ≡ bit (is_kept_at p kept) = ap (λ q. bit (bytes_eq q p)) path_same in
        omega (arith, written_count (is_kept_at p), old.apart p)

    pub IsKept-changed : IsKept keys files (set xs at written) new
    IsKept-changed = record {
      numbered =
          let all = subst (λ (ks : List KeptDocument). AreNumbered (paths_in keys) ks) cut old.numbered in
          let back = AreNumbered-back (paths_in keys) (take at xs) (kept ∷ drop (suc at) xs) all in
          let here : number_of (paths_in keys) written.path ≡ Some written.number.0 = ap (number_of (paths_in keys)) path_same ∙ back.0 ∙ ap (λ n. Some n.0) (sym number_same) in
          subst (λ (ks : List KeptDocument). AreNumbered (paths_in keys) ks) (sym (set_at xs at written found.within))
          (AreNumbered-append (paths_in keys) (take at xs) (written ∷ drop (suc at) xs)
          (AreNumbered-front (paths_in keys) (take at xs) (kept ∷ drop (suc at) xs) all)
          (here, back.1));
      apart = changed_apart;
      owned = changed_owned;
      few = old.few;
      differ = old.differ;
      filed = old.filed;
    }

    -- a text of an old document that has an owner now is what it was
    stays : (id : ℕ) → 0 < owners_of pool id → 0 < owners_of new id → text_of new id ≡ text_of pool id
    stays id before now =
        text_of-released middle new kept.text.0 released middle_owned id now
        ∙ text_of-interned pool middle text written.text.0 interned id before

    parts_stay : (ys : List KeptDocument) → ((id : ℕ) → count_by (has_text id) ys ≤ count_by (has_text id) xs) →
        ((id : ℕ) → count_by (has_text id) ys ≤ count_by (has_text id) (set xs at written)) → DocumentTextsStay pool new ys
    parts_stay ys before now = record {
      stay = λ id some.
          let was : owners_of pool id ≡ count_by (has_text id) xs + count_by (reads_text id) files = old.owned id in
          let is : owners_of new id ≡ count_by (has_text id) (set xs at written) + count_by (reads_text id) files = changed_owned id in
          let below_was : count_by (has_text id) ys ≤ count_by (has_text id) xs = before id in
          let below_is : count_by (has_text id) ys ≤ count_by (has_text id) (set xs at written) = now id in
          stays id (omega arith) (omega arith);
    }

    pub changed_files : map (file_in new) files ≡ map (file_in pool) files
    changed_files = files_stay pool new files (record {
      stay = λ id some.
          let was : owners_of pool id ≡ count_by (has_text id) xs + count_by (reads_text id) files = old.owned id in
          let is : owners_of new id ≡ count_by (has_text id) (set xs at written) + count_by (reads_text id) files = changed_owned id in
          stays id (omega arith) (omega arith);
    })

    new_text : text_of new written.text.0 ≡ text
    new_text =
        let is : owners_of new written.text.0 ≡ count_by (has_text written.text.0) (set xs at written) + count_by (reads_text written.text.0) files = changed_owned written.text.0 in
        let whole : count_by (has_text written.text.0) (set xs at written) ≡ count_by (has_text written.text.0) (take at xs) + count_by (has_text written.text.0) (written ∷ drop (suc at) xs) =
        ap (count_by (has_text written.text.0)) (set_at xs at written found.within) ∙ sum_by-append (λ y. cond (has_text written.text.0 y) 1 0) (take at xs) (written ∷ drop (suc at) xs) in
        let own : 0 < count_by (has_text written.text.0) (written ∷ drop (suc at) xs) = has_own written (drop (suc at) xs) in
        text_of-released middle new kept.text.0 released middle_owned written.text.0 (omega arith)
        ∙ IsInterned-text pool middle text written.text.0 interned

    -- the store has the new version and text of the document
    pub changed_documents : (version : ℤ) → written.uri ≡ kept.uri → written.language ≡ kept.language → written.version ≡ version →
        map (document_in new) (set xs at written) ≡ map (λ d. cond (is_at path d) (record d { version = version; text = text }) d) (map (document_in pool) xs)
    changed_documents version uri_same language_same version_is =
        let front = take at xs in
        let back = drop (suc at) xs in
        let write : OpenDocument → OpenDocument = λ d. record d { version = version; text = text } in
        let change : OpenDocument → OpenDocument = λ d. cond (is_at path d) (write d) d in
        let is : document_in new written ≡ write (document_in pool kept) =
        λ i. record { path = path_same i; uri = uri_same i; language = language_same i; version = version_is i; text = new_text i } in
        let first : DocumentTextsStay pool new front = parts_stay front
        (λ id. omega (arith, ap (count_by (has_text id)) cut ∙ sum_by-append (λ y. cond (has_text id y) 1 0) front (kept ∷ back)))
        (λ id. omega (arith, ap (count_by (has_text id)) (set_at xs at written found.within) ∙ sum_by-append (λ y. cond (has_text id y) 1 0) front (written ∷ back))) in
        let last : DocumentTextsStay pool new back = parts_stay back
        (λ id. omega (arith, ap (count_by (has_text id)) cut ∙ sum_by-append (λ y. cond (has_text id y) 1 0) front (kept ∷ back), sum_by-cons (λ y. cond (has_text id y) 1 0) kept back))
        (λ id. omega (arith, ap (count_by (has_text id)) (set_at xs at written found.within) ∙ sum_by-append (λ y. cond (has_text id y) 1 0) front (written ∷ back), sum_by-cons (λ y. cond (has_text id y) 1 0) written back)) in
        ap (map (document_in new)) (set_at xs at written found.within)
        ∙ map-append (document_in new) front (written ∷ back)
        ∙ ap (λ ds. ds ++ (document_in new written ∷ map (document_in new) back)) (documents_stay pool new front first)
        ∙ ap (λ ds. map (document_in pool) front ++ (document_in new written ∷ ds)) (documents_stay pool new back last)
        ∙ ap (λ d. map (document_in pool) front ++ (d ∷ map (document_in pool) back)) is
        ∙ sym (ap (map change) documents_cut
        ∙ map-append change (map (document_in pool) front) (document_in pool kept ∷ map (document_in pool) back)
        ∙ ap (λ b. map change (map (document_in pool) front) ++ (cond b (write (document_in pool kept)) (document_in pool kept) ∷ map change (map (document_in pool) back))) found.passes
        ∙ ap (λ ds. ds ++ (write (document_in pool kept) ∷ map change (map (document_in pool) back))) (map-none (is_kept_at path) (is_at path) (document_in pool) write (λ _. refl) front none_else.0)
        ∙ ap (λ ds. map (document_in pool) front ++ (write (document_in pool kept) ∷ ds)) (map-none (is_kept_at path) (is_at path) (document_in pool) write (λ _. refl) back none_else.1))

-- ---- whether a document may be opened

abbrev verdict : Bool → Bool → Bool → Result (Unit {0}) StoreFault
verdict is_open full long = cond is_open (Err AlreadyOpen) (cond full (Err TooMany) (cond long (Err TextTooLong) (Ok tt)))

pub may_open_is : (store : Store) (path text : List ℕ) (is_open full long : Bool) → is_some (document_of store path) ≡ is_open →
    nat_le MOST_DOCUMENTS (length store.documents) ≡ full → is_too_long text ≡ long → MayOpen store path text (verdict is_open full long)
may_open_is store path text is_open full long open_is full_is long_is =
    ap (λ b. verdict b full long) (sym open_is)
    ∙ ap (λ b. verdict (is_some (document_of store path)) b long) (sym full_is)
    ∙ ap (λ b. verdict (is_some (document_of store path)) (nat_le MOST_DOCUMENTS (length store.documents)) b) (sym long_is)

pub IsKept-empty : (keys : List (String Global)) (files : List (Option MemberText)) (xs : List KeptDocument) (pool : Pool) → keys ≡ [] → files ≡ [] → xs ≡ [] →
    pool ≡ finite.empty → IsKept keys files xs pool
IsKept-empty keys files xs pool no_key no_file no_document no_text = record {
  numbered = subst (λ (ks : List KeptDocument). AreNumbered (paths_in keys) ks) (sym no_document) tt;
  apart = λ path. subst (λ (ks : List KeptDocument). count_by (is_kept_at path) ks ≤ 1) (sym no_document) (omega arith);
  owned = λ id.
      owners_of-none pool id no_text
      ∙ ap (λ n. n + count_by (reads_text id) []) (ap (count_by (has_text id)) (sym no_document))
      ∙ ap (λ fs. count_by (has_text id) xs + count_by (reads_text id) fs) (sym no_file);
  few = subst (λ (ks : List (String Global)). length ks ≤ 2 ^ 32) (sym no_key) (lit≤ tt);
  differ = subst (λ (ks : List (String Global)). PathsDiffer (paths_in ks)) (sym no_key) (λ number path at. absurd cc);
  filed = ap length no_file ∙ sym (ap length no_key);
}

pub AreWithin-empty : (files : List (Option MemberText)) (pool : Pool) (totals : Totals) → files ≡ [] → totals ≡ record { files = 0; bytes = 0 } →
    AreWithin totals (map (file_in pool) files)
AreWithin-empty files pool totals no_file none =
    subst (λ (t : Totals). AreWithin t (map (file_in pool) files)) (sym none)
    (subst (λ (fs : List (Option MemberText)). AreWithin (record { files = 0; bytes = 0 }) (map (file_in pool) fs)) (sym no_file)
    (record { counted = record { files_are = refl; bytes_are = refl }; fit = refl }))

-- how many documents are open
module _ (h : Holdings) (keys : List (String Global)) (files : List (Option MemberText)) (xs : List KeptDocument) (pool : Pool) (view : holdings_of keys files xs pool ≡ h)
    (slice : List KeptDocument) (slice_is : slice ≡ xs) where
  open_count : length h.store.documents ≡ length slice
  open_count = ap (λ (g : Holdings). length g.store.documents) (sym view) ∙ length-map xs (document_in pool) ∙ ap length (sym slice_is)

  pub full_is : MOST_DOCUMENTS ≤ length slice → nat_le MOST_DOCUMENTS (length h.store.documents) ≡ true
  full_is many = ap (nat_le MOST_DOCUMENTS) open_count ∙ le-leb MOST_DOCUMENTS (length slice) many

  pub room_is : length slice < MOST_DOCUMENTS → nat_le MOST_DOCUMENTS (length h.store.documents) ≡ false
  room_is few = ap (nat_le MOST_DOCUMENTS) open_count ∙ lt-leb MOST_DOCUMENTS (length slice) few
