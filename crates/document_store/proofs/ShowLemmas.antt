-- What a store shows of its parts.
use Rattle.std.proofs.Common.{◌≡◌, ◌∙◌, ℕ, ◌+◌, ◌<◌, ◌≤◌, ◌^◌, cond, inl, inr, List, [], length, get_or, map, refl, sym, ap, subst, arith, Some, None, Option, IsSome}
use Rattle.std.specs.Prelude.{position, slice_get, count_by, chars}
use Rattle.std.specs.Option.{option_map, option_and_then}
use Rattle.std.specs.Str.{bytes_eq}
use Rattle.std.specs.declared.string.String.{String}
use Rattle.std.specs.declared.alloc.Global.{Global}
use Rattle.hl_base.specs.declared.place.TextId.{TextId}
use Rattle.std.proofs.lemmas.Bool.{eq-eqb}
use Rattle.std.proofs.lemmas.List.{length-map, get_or-map, get_or_past}
use Rattle.std.proofs.lemmas.List.Folds.{find_at}
use Rattle.std.proofs.lemmas.List.Quantifiers.{position-Some}
use Rattle.std.proofs.lemmas.List.Sums.{get_or-le-sum_by}
use Rattle.std.proofs.lemmas.Option.{slice_get-map, slice_get-get_or, slice_get_past, slice_get_cases}
use Rattle.std.proofs.lemmas.Slice.Eq.{bytes_eq-Decides}
use Rattle.text_pool.specs.Pool.{Pool, IsLive, text_of, owners_of, HasText}
use Rattle.document_store.specs.Store.{Store, OpenDocument, File, Readable, Unreadable, number_of, file_at, is_at, present, present_in, present_at}
use Rattle.document_store.specs.Holdings.{Holdings, text_in}
use Rattle.document_store.specs.Shown.{IsShown, IsPresent, PathsDiffer}
use Rattle.document_store.specs.Inside.{document_in, file_in, paths_in, holdings_of, has_text, reads_text, AreOwned, IsOwnedIn, IsKept}
use Rattle.document_store.specs.declared.kept.KeptDocument.{KeptDocument}
use Rattle.document_store.specs.declared.document.Document.{Document}
use Rattle.document_store.specs.declared.document.MemberText.{MemberText}
use Rattle.document_store.specs.declared.document.MemberText.TheVariants as member
use Rattle.document_store.proofs.OwnerLemmas.{IsLive-owned}
use Rattle.document_store.proofs.DocumentLemmas.{bit, find-None, position-first}
use Rattle.document_store.proofs.PathLemmas.{length-paths_in}
use Rattle.document_store.proofs.FileLemmas.{IsOwnedIn-at}
use Rattle.document_store.proofs.StoreLemmas.{number-at}

-- ---- documents

-- the path of a number
pub path_of_number : (paths : List (List ℕ)) (path : List ℕ) (n : ℕ) → number_of paths path ≡ Some n → slice_get paths n ≡ Some path
path_of_number paths path n found =
    let at = position-Some (bytes_eq path) paths n [] found in
    slice_get-get_or paths n [] at.0 ∙ ap Some (sym ((bytes_eq-Decides path (get_or paths n [])).0 at.1))

document_at : (pool : Pool) (xs : List KeptDocument) (at : ℕ) (kept : KeptDocument) → at < length xs → kept ≡ get_or xs at kept →
    slice_get (map (document_in pool) xs) at ≡ Some (document_in pool kept)
document_at pool xs at kept within here =
    slice_get-map (document_in pool) xs at ∙ ap (option_map (document_in pool)) (slice_get-get_or xs at kept within ∙ ap Some (sym here))

module _ (h : Holdings) (keys : List (String Global)) (files : List (Option MemberText)) (xs : List KeptDocument) (pool : Pool) (view : holdings_of keys files xs pool ≡ h) where
  pub shown_none : (at : ℕ) → length xs ≤ at → IsShown h.store.paths (slice_get h.store.documents at) None
  shown_none at past =
      let none : slice_get (map (document_in pool) xs) at ≡ None = slice_get-map (document_in pool) xs at ∙ ap (option_map (document_in pool)) (slice_get_past xs at past) in
      let shows : IsShown (paths_in keys) (slice_get (map (document_in pool) xs) at) None = subst (λ (o : Option OpenDocument). IsShown (paths_in keys) o None) (sym none) tt in
      subst (λ (g : Holdings). IsShown g.store.paths (slice_get g.store.documents at) None) view shows

  pub shown_is : IsKept keys files xs pool → (at : ℕ) (kept : KeptDocument) (shown : Document) → at < length xs → kept ≡ get_or xs at kept →
      shown.path ≡ kept.number → chars shown.uri.now ≡ kept.uri → chars shown.language.now ≡ kept.language → shown.version ≡ kept.version →
      IsShown h.store.paths (slice_get h.store.documents at) (Some shown)
  shown_is old at kept shown within here path uri language version =
      let number : number_of (paths_in keys) kept.path ≡ Some kept.number.0 = number-at (paths_in keys) xs at kept old.numbered (slice_get-get_or xs at kept within ∙ ap Some (sym here)) in
      let numbered : number_of (paths_in keys) kept.path ≡ Some shown.path.0 = number ∙ ap (λ n. Some n.0) (sym path) in
      let shows : IsShown (paths_in keys) (Some (document_in pool kept)) (Some shown) =
      record { path = path_of_number (paths_in keys) kept.path shown.path.0 numbered; number = numbered; uri = uri; language = language; version = version } in
      let all : IsShown (paths_in keys) (slice_get (map (document_in pool) xs) at) (Some shown) =
      subst (λ (o : Option OpenDocument). IsShown (paths_in keys) o (Some shown)) (sym (document_at pool xs at kept within here)) shows in
      subst (λ (g : Holdings). IsShown g.store.paths (slice_get g.store.documents at) (Some shown)) view all

-- ---- paths and files

module _ (h : Holdings) (keys : List (String Global)) (files : List (Option MemberText)) (xs : List KeptDocument) (pool : Pool) (view : holdings_of keys files xs pool ≡ h)
    (kept : IsKept keys files xs pool) where
  -- each path has a place for its file
  pub filed_view : length h.store.files ≡ length h.store.paths
  filed_view =
      subst (λ (g : Holdings). length g.store.files ≡ length g.store.paths) view
      (length-map files (file_in pool) ∙ kept.filed ∙ sym (length-paths_in keys))

  -- no two numbers have one path
  pub differ_view : PathsDiffer h.store.paths
  differ_view = subst (λ (g : Holdings). PathsDiffer g.store.paths) view kept.differ

  pub few_view : length h.store.paths ≤ 2 ^ 32
  few_view =
      subst (λ (g : Holdings). length g.store.paths ≤ 2 ^ 32) view (subst (λ (n : ℕ). n ≤ 2 ^ 32) (sym (length-paths_in keys)) kept.few)

none_past : (paths : List (List ℕ)) (n : ℕ) → slice_get paths n ≡ None → length paths ≤ n
none_past paths n none = elim (slice_get_cases paths n).1 [
  | inl at ↦ let some : Some at.0 ≡ None = sym at.2 ∙ none in absurd cc
  | inr past ↦ past.0
]

-- where no document is open at the path of a number, its file is present there
module _ (store : Store) (n : ℕ) (filed : length store.files ≡ length store.paths) (differ : PathsDiffer store.paths) where
  file_from : (o : Option (List ℕ)) → slice_get store.paths n ≡ o → option_and_then (λ p. position (is_at p) store.documents) o ≡ None →
      option_and_then (present store) o ≡ file_at store n
  file_from None at none = let past = none_past store.paths n at in sym (get_or_past store.files n None (omega arith))
  file_from (Some path) at none =
      ap (present_in store path) (find-None (is_at path) store.documents none)
      ∙ ap (option_and_then (file_at store)) (differ n path at)

  pub file_present : option_and_then (λ p. position (is_at p) store.documents) (slice_get store.paths n) ≡ None → present_at store n ≡ file_at store n
  file_present none = file_from (slice_get store.paths n) refl none

-- what is kept of a file is present, where it is owned
IsPresent-owned : (pool : Pool) (file : Option MemberText) → IsOwnedIn pool file → IsPresent pool (file_in pool file) file
IsPresent-owned pool None owned = tt
IsPresent-owned pool (Some member.Unreadable) owned = tt
IsPresent-owned pool (Some (member.File id)) owned = record { live = IsLive-owned pool id.0 owned; is = refl }

module _ (h : Holdings) (keys : List (String Global)) (files : List (Option MemberText)) (xs : List KeptDocument) (pool : Pool) (view : holdings_of keys files xs pool ≡ h)
    (n : ℕ) where
  pub file_none : length files ≤ n → IsPresent h.pool (file_at h.store n) None
  file_none past =
      let none : get_or (map (file_in pool) files) n None ≡ None = get_or_past (map (file_in pool) files) n None (omega (arith, past, length-map files (file_in pool))) in
      let shows : IsPresent pool (file_at (holdings_of keys files xs pool).store n) None = subst (λ (o : Option File). IsPresent pool o None) (sym none) tt in
      subst (λ (g : Holdings). IsPresent g.pool (file_at g.store n) None) view shows

  pub file_is : IsKept keys files xs pool → (file : Option MemberText) → n < length files → file ≡ get_or files n file → IsPresent h.pool (file_at h.store n) file
  file_is kept file within here =
      let is : get_or (map (file_in pool) files) n None ≡ file_in pool file = get_or-map (file_in pool) files n file None within ∙ ap (file_in pool) (sym here) in
      let shows : IsPresent pool (file_at (holdings_of keys files xs pool).store n) file =
      subst (λ (o : Option File). IsPresent pool o file) (sym is) (IsPresent-owned pool file (IsOwnedIn-at pool files xs kept.owned n file within here)) in
      subst (λ (g : Holdings). IsPresent g.pool (file_at g.store n) file) view shows

-- ---- texts

-- the text of a document has an owner
owned_at : (files : List (Option MemberText)) (xs : List KeptDocument) (at : ℕ) (kept : KeptDocument) (pool : Pool) → AreOwned pool files xs → at < length xs →
    kept ≡ get_or xs at kept → 0 < owners_of pool kept.text.0
owned_at files xs at kept pool owned within here =
    let owners : owners_of pool kept.text.0 ≡ count_by (has_text kept.text.0) xs + count_by (reads_text kept.text.0) files = owned kept.text.0 in
    let one : bit (has_text kept.text.0 (get_or xs at kept)) ≤ count_by (has_text kept.text.0) xs = get_or-le-sum_by (λ k. cond (has_text kept.text.0 k) 1 0) xs at kept within in
    let itself : bit (has_text kept.text.0 (get_or xs at kept)) ≡ 1 =
    ap (λ (k : KeptDocument). bit (has_text kept.text.0 k)) (sym here) ∙ ap bit (eq-eqb kept.text.0 kept.text.0 refl) in
    omega arith

text_present : (o : Option (List ℕ)) (store : Store) (at : ℕ) (document : OpenDocument) →
    option_and_then (λ p. position (is_at p) store.documents) o ≡ Some at → slice_get store.documents at ≡ Some document →
    option_and_then (present store) o ≡ Some (Readable document.text)
text_present None store at document place here = absurd (cc)
text_present (Some path) store at document place here =
    ap (present_in store path)
    (find_at (is_at path) store.documents
    ∙ ap (slice_get store.documents) (position-first (is_at path) store.documents at document place)
    ∙ here)

place_within : (o : Option (List ℕ)) (documents : List OpenDocument) (at : ℕ) (d : OpenDocument) → option_and_then (λ p. position (is_at p) documents) o ≡ Some at → at < length documents
place_within None documents at d place = absurd (cc)
place_within (Some path) documents at d place = (position-Some (is_at path) documents at d place).0

module _ (h : Holdings) (keys : List (String Global)) (files : List (Option MemberText)) (xs : List KeptDocument) (pool : Pool) (view : holdings_of keys files xs pool ≡ h)
    (n : ℕ) (place : Option ℕ) (searched : place ≡ option_and_then (λ p. position (is_at p) h.store.documents) (slice_get h.store.paths n))
    (old : IsKept keys files xs pool) where
  -- where no document is found, the file is what is present
  pub present_file : (shown : Option MemberText) → place ≡ None → IsPresent h.pool (file_at h.store n) shown → IsPresent h.pool (present_at h.store n) shown
  present_file shown none shows =
      let is : present_at h.store n ≡ file_at h.store n =
      file_present h.store n (filed_view h keys files xs pool view old) (differ_view h keys files xs pool view old) (sym searched ∙ none) in
      subst (λ (o : Option File). IsPresent h.pool o shown) (sym is) shows

  in_parts : place ≡ option_and_then (λ p. position (is_at p) (map (document_in pool) xs)) (slice_get (paths_in keys) n)
  in_parts = searched ∙ ap (λ (g : Holdings). option_and_then (λ p. position (is_at p) g.store.documents) (slice_get g.store.paths n)) (sym view)

  module _ (at : ℕ) (kept : KeptDocument) (found : place ≡ Some at) (here : kept ≡ get_or xs at kept) where
    within_kept : at < length xs
    within_kept = omega (arith, place_within (slice_get (paths_in keys) n) (map (document_in pool) xs) at (document_in pool kept) (sym in_parts ∙ found), length-map xs (document_in pool))

    present_readable : present_at h.store n ≡ Some (Readable (text_of pool kept.text.0))
    present_readable =
        ap (λ (g : Holdings). present_at g.store n) (sym view)
        ∙ text_present (slice_get (paths_in keys) n) (holdings_of keys files xs pool).store at (document_in pool kept) (sym in_parts ∙ found) (document_at pool xs at kept within_kept here)

    pub present_is : IsPresent h.pool (present_at h.store n) (Some (member.File kept.text))
    present_is =
        let has : HasText pool (text_of pool kept.text.0) kept.text.0 = record { live = IsLive-owned pool kept.text.0 (owned_at files xs at kept pool old.owned within_kept here); is = refl } in
        let shown : IsPresent pool (Some (Readable (text_of pool kept.text.0))) (Some (member.File kept.text)) = has in
        let all : IsPresent pool (present_at h.store n) (Some (member.File kept.text)) =
        subst (λ (o : Option File). IsPresent pool o (Some (member.File kept.text))) (sym present_readable) shown in
        subst (λ (p : Pool). IsPresent p (present_at h.store n) (Some (member.File kept.text))) (ap (λ (g : Holdings). g.pool) view) all

-- ---- the text that is present

-- a text that is present is live, and stands for what is read there
pub present_live : (pool : Pool) (o : Option File) (id : TextId) → IsPresent pool o (Some (member.File id)) → (text_in o ≡ Some (text_of pool id.0)) × IsLive pool id.0
present_live pool None id shows = absurd shows
present_live pool (Some Unreadable) id shows = absurd shows
present_live pool (Some (Readable text)) id shows = (ap Some (sym shows.is), shows.live)

-- where a text is read, neither nothing nor a file that cannot be read is present
pub present_nothing : (pool : Pool) (o : Option File) → IsSome (text_in o) → IsPresent pool o None → ⊥
present_nothing pool None some shows = cc
present_nothing pool (Some Unreadable) some shows = shows
present_nothing pool (Some (Readable text)) some shows = shows

pub present_unreadable : (pool : Pool) (o : Option File) → IsSome (text_in o) → IsPresent pool o (Some member.Unreadable) → ⊥
present_unreadable pool None some shows = shows
present_unreadable pool (Some Unreadable) some shows = cc
present_unreadable pool (Some (Readable text)) some shows = shows
