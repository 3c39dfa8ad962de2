-- What opening, changing and closing come to, where the parts of a store are known.
use Rattle.std.proofs.Common.{◌≡◌, ◌∙◌, ℕ, ℤ, ◌<◌, ◌≤◌, ◌^◌, Bool, true, false, cond, List, [], ◌∷◌, ◌++◌, length, get_or, set, map, refl, sym, ap, subst, Some, None, Option}
use Rattle.std.specs.Prelude.{find, position, slice_get, is_some, Result, Ok, Err, chars, IsUtf8, encode_utf8_all, IfSome, IfErr, OnOk, OnErr}
use Rattle.std.specs.List.{remove}
use Rattle.std.specs.declared.string.String.{String}
use Rattle.std.specs.declared.alloc.Global.{Global}
use Rattle.std.proofs.lemmas.Bool.{ltb-false}
use Rattle.std.proofs.lemmas.Option.{slice_get-get_or}
use Rattle.std.proofs.lemmas.Str.{encodes-chars}
use Rattle.file_uri.specs.Paths.{path_of}
use Rattle.hl_base.specs.declared.edit.Edit.{Edit}
use Rattle.hl_base.specs.declared.place.TextId.{TextId}
use Rattle.text_pool.specs.Pool.{Pool, owners_of, IsInterned}
use Rattle.text_pool.specs.declared.pool.TheConstants.{LONGEST_TEXT}
use Rattle.document_store.specs.Store.{Store, OpenDocument, number_of, is_at, document_of}
use Rattle.document_store.specs.Holdings.{Holdings}
use Rattle.document_store.specs.Edits.{after_edits, and_then, is_too_long}
use Rattle.document_store.specs.Changes.{with_path, beside_path, with_document, with_text, without, changed, changed_at, changed_document, closed, closed_at, MayOpen, Answers}
use Rattle.document_store.specs.Places.{GivesText}
use Rattle.document_store.specs.Inside.{document_in, file_in, path_in, paths_in, holdings_of, is_kept_at, AreWithin, IsKept}
use Rattle.document_store.specs.declared.document.MemberText.{MemberText}
use Rattle.document_store.specs.declared.members.Totals.{Totals}
use Rattle.document_store.specs.declared.kept.KeptDocument.{KeptDocument}
use Rattle.document_store.specs.declared.fault.StoreFault.{StoreFault}
use Rattle.document_store.specs.declared.fault.StoreFault.TheVariants.{AlreadyOpen, BadUri, NotOpen, OutOfMemory, TextTooLong, TooMany, BadRange, LibraryTooLarge}
use Rattle.document_store.proofs.OwnerLemmas.{IsReleased}
use Rattle.document_store.proofs.DocumentLemmas.{find-None, found_document}
use Rattle.document_store.proofs.PathLemmas.{length-paths_in}
use Rattle.document_store.proofs.FileLemmas.{AreWithin-same}
use Rattle.document_store.proofs.StoreLemmas.{IsFound, IsFound-from_position, IsKept-opened, opened_documents, opened_files, opened_within, owned_text, position_of-documents, IsKept-closed, closed_documents, closed_files, IsKept-changed, changed_documents, changed_files, absent_from, absent_to, document_to}

-- the place that a search over a slice gave, told of the documents
pub found_place : (path text : List ℕ) (xs slice : List KeptDocument) (place is : Option ℕ) → place ≡ position (is_kept_at text) slice →
    text ≡ path → slice ≡ xs → place ≡ is → position (is_kept_at path) xs ≡ is
found_place path text xs slice place is searched text_is slice_is place_is =
    ap (λ p. position (is_kept_at p) xs) (sym text_is) ∙ ap (position (is_kept_at text)) (sym slice_is) ∙ sym searched ∙ place_is

-- ---- parts that stayed

-- what is true of the parts of a store is true of the same parts
module _ (keys keys_now : List (String Global)) (files files_now : List (Option MemberText)) (xs xs_now : List KeptDocument) (pool pool_now : Pool) where
  abbrev IsSound : Totals → List (String Global) → List (Option MemberText) → List KeptDocument → Pool → Type 0
  IsSound totals ks fs ds p = IsKept ks fs ds p × AreWithin totals (map (file_in p) fs)

  pub sound_again : (totals : Totals) → keys_now ≡ keys → files_now ≡ files → xs_now ≡ xs → pool_now ≡ pool → IsSound totals keys files xs pool →
      IsSound totals keys_now files_now xs_now pool_now
  sound_again totals k f x p sound =
      subst (λ ks. IsSound totals ks files_now xs_now pool_now) (sym k)
      (subst (λ fs. IsSound totals keys fs xs_now pool_now) (sym f)
      (subst (λ ds. IsSound totals keys files ds pool_now) (sym x)
      (subst (λ q. IsSound totals keys files xs q) (sym p) sound)))

  pub holdings_again : keys_now ≡ keys → files_now ≡ files → xs_now ≡ xs → pool_now ≡ pool → holdings_of keys_now files_now xs_now pool_now ≡ holdings_of keys files xs pool
  holdings_again k f x p = λ i. holdings_of (k i) (f i) (x i) (p i)

-- what holds holds where a call is refused
pub on_err : {T E P : Type 0} (result : Result T E) → P → OnErr result P
on_err (Ok done) holds = tt
on_err (Err refused) holds = holds

-- ---- opening

short_text : (is_open full long : Bool) (u : Unit {0}) →
    Ok u ≡ cond is_open (Err AlreadyOpen) (cond full (Err TooMany) (cond long (Err TextTooLong) (Ok tt))) → long ≡ false
short_text true full long u asked = absurd (cc)
short_text false true long u asked = absurd (cc)
short_text false false true u asked = absurd (cc)
short_text false false false u asked = refl

-- a text that may be opened is not too long
pub may_open-short : (store : Store) (path bytes : List ℕ) (u : Unit {0}) → IsUtf8 bytes → MayOpen store path (chars bytes) (Ok u) → length bytes ≤ LONGEST_TEXT
may_open-short store path bytes u utf8 asked =
    let short : is_too_long (chars bytes) ≡ false = short_text _ _ _ u asked in
    subst (λ (b : List ℕ). length b ≤ LONGEST_TEXT) (encodes-chars bytes utf8) (ltb-false LONGEST_TEXT (length (encode_utf8_all (chars bytes))) short)

module _ (keys middle later : List (String Global)) (files among beside : List (Option MemberText)) (xs between after : List KeptDocument) (kept : KeptDocument) (pool new : Pool)
    (path text : List ℕ) (key : String Global) (old : IsKept keys files xs pool)
    (keys_stay : middle ≡ keys) (files_same : among ≡ files) (documents_same : between ≡ xs) (key_is : path_in key ≡ path) (path_is : kept.path ≡ path)
    (entered : paths_in later ≡ with_path (paths_in middle) (path_in key))
    (placed : beside ≡ beside_path (paths_in middle) (path_in key) among None) (pushed : after ≡ between ++ kept ∷ [])
    (absent : find (is_at path) (map (document_in pool) xs) ≡ None)
    (number : number_of (with_path (paths_in keys) path) path ≡ Some kept.number.0) (few : length (with_path (paths_in keys) path) ≤ 2 ^ 32)
    (interned : IsInterned pool new text kept.text.0) where
  later_is : paths_in later ≡ with_path (paths_in keys) path
  later_is = entered ∙ ap (λ ks. with_path (paths_in ks) (path_in key)) keys_stay ∙ ap (with_path (paths_in keys)) key_is

  entered_kept : paths_in later ≡ with_path (paths_in keys) kept.path
  entered_kept = later_is ∙ ap (with_path (paths_in keys)) (sym path_is)

  beside_kept : beside ≡ beside_path (paths_in keys) kept.path files None
  beside_kept =
      placed
      ∙ ap (λ ks. beside_path (paths_in ks) (path_in key) among None) keys_stay
      ∙ ap (λ p. beside_path (paths_in keys) p among None) (key_is ∙ sym path_is)
      ∙ ap (λ fs. beside_path (paths_in keys) kept.path fs None) files_same

  after_is : after ≡ xs ++ kept ∷ []
  after_is = pushed ∙ ap (λ ks. ks ++ kept ∷ []) documents_same

  absent_kept : find (is_kept_at kept.path) xs ≡ None
  absent_kept = ap (λ p. find (is_kept_at p) xs) path_is ∙ absent_from path pool xs absent

  number_kept : number_of (paths_in later) kept.path ≡ Some kept.number.0
  number_kept = ap (λ ps. number_of ps kept.path) later_is ∙ ap (number_of (with_path (paths_in keys) path)) path_is ∙ number

  few_later : length later ≤ 2 ^ 32
  few_later =
      subst (λ (n : ℕ). n ≤ 2 ^ 32) (length-paths_in later) (subst (λ (ps : List (List ℕ)). length ps ≤ 2 ^ 32) (sym later_is) few)

  pub IsKept-admitted : IsKept later beside after new
  IsKept-admitted =
      subst (λ (ks : List KeptDocument). IsKept later beside ks new) (sym after_is)
      (IsKept-opened keys later files beside xs kept pool new text old entered_kept beside_kept absent_kept number_kept few_later interned)

  pub AreWithin-admitted : (totals : Totals) → AreWithin totals (map (file_in pool) files) → AreWithin totals (map (file_in new) beside)
  AreWithin-admitted totals within =
      opened_within keys later files beside xs kept pool new text old entered_kept beside_kept absent_kept number_kept few_later interned totals within

  pub admitted_store : (h : Holdings) (uri language : List ℕ) (version : ℤ) → holdings_of keys files xs pool ≡ h → kept.uri ≡ uri → kept.language ≡ language → kept.version ≡ version →
      (holdings_of later beside after new).store ≡ with_document h.store (record { path = path; uri = uri; language = language; version = version; text = text })
  admitted_store h uri language version view uri_is language_is version_is =
      let document : OpenDocument = record { path = path; uri = uri; language = language; version = version; text = text } in
      let last : OpenDocument = record { path = kept.path; uri = kept.uri; language = kept.language; version = kept.version; text = text } in
      let same : last ≡ document = λ i. record { path = path_is i; uri = uri_is i; language = language_is i; version = version_is i; text = text } in
      let documents : map (document_in new) after ≡ map (document_in pool) xs ++ document ∷ [] =
      ap (map (document_in new)) after_is
      ∙ opened_documents keys later files beside xs kept pool new text old entered_kept beside_kept absent_kept number_kept few_later interned
      ∙ ap (λ d. map (document_in pool) xs ++ d ∷ []) same in
      let kept_files : map (file_in new) beside ≡ beside_path (paths_in keys) path (map (file_in pool) files) None =
      opened_files keys later files beside xs kept pool new text old entered_kept beside_kept absent_kept number_kept few_later interned
      ∙ ap (λ p. beside_path (paths_in keys) p (map (file_in pool) files) None) path_is in
      let store : (holdings_of later beside after new).store ≡ with_document (holdings_of keys files xs pool).store document =
      λ i. record { documents = documents i; files = kept_files i; paths = later_is i } in
      store ∙ ap (λ (g : Holdings). with_document g.store document) view

-- ---- closing

pub closed_none : (h : Holdings) (keys : List (String Global)) (files : List (Option MemberText)) (xs : List KeptDocument) (pool : Pool) (uri path : List ℕ) → holdings_of keys files xs pool ≡ h →
    path_of uri ≡ Some path → position (is_kept_at path) xs ≡ None → closed h.store uri ≡ Err NotOpen
closed_none h keys files xs pool uri path view path_is none =
    let store : Store = (holdings_of keys files xs pool).store in
    ap (λ (g : Holdings). closed g.store uri) (sym view)
    ∙ ap (closed_at store) path_is
    ∙ ap (λ (found : Option OpenDocument). cond (is_some found) (Ok (without store path)) (Err NotOpen)) (absent_to path pool xs none)

-- ---- changing

-- a call that is taken gives the store that is asked, or no memory
pub answers_taken : (asked : Result Store StoreFault) (result : Result (Unit {0}) StoreFault) (new wanted : Store) → asked ≡ Ok wanted →
    OnOk result (new ≡ wanted) → IfErr result (λ fault. fault ≡ OutOfMemory) → Answers {T = Unit {0}} asked result new
answers_taken asked (Ok u) new wanted is taken memory = is ∙ ap Ok (sym taken)
answers_taken asked (Err fault) new wanted is taken memory =
    subst (λ (f : StoreFault). Answers {T = Unit {0}} asked (Err f) new) (sym memory) tt

-- a list of changes that is refused refuses the call
pub answers_fault : (asked : Result Store StoreFault) (given : Result (List ℕ) StoreFault) (fault : StoreFault) (new : Store) → GivesText given (Err fault) →
    ((f : StoreFault) → given ≡ Err f → asked ≡ Err f) → Answers {T = Unit {0}} asked (Err fault) new
answers_fault asked given OutOfMemory new gives further = tt
answers_fault asked given BadUri new gives further = further BadUri gives
answers_fault asked given AlreadyOpen new gives further = further AlreadyOpen gives
answers_fault asked given TooMany new gives further = further TooMany gives
answers_fault asked given TextTooLong new gives further = further TextTooLong gives
answers_fault asked given NotOpen new gives further = further NotOpen gives
answers_fault asked given LibraryTooLarge new gives further = further LibraryTooLarge gives
answers_fault asked given (BadRange number) new gives further = further (BadRange number) gives

module _ (h : Holdings) (keys : List (String Global)) (files : List (Option MemberText)) (xs : List KeptDocument) (pool : Pool) (uri path : List ℕ) (at : ℕ) (kept : KeptDocument)
    (old : IsKept keys files xs pool) (view : holdings_of keys files xs pool ≡ h) (path_is : path_of uri ≡ Some path)
    (found : position (is_kept_at path) xs ≡ Some at) (here : kept ≡ get_or xs at kept) where
  there : IsFound path xs at kept
  there = IsFound-from_position path xs at kept found here

  document_is : document_of (holdings_of keys files xs pool).store path ≡ Some (document_in pool kept)
  document_is = document_to path pool xs at kept found here

  pub closed_store : (new : Pool) → IsReleased pool new kept.text.0 →
      IsKept keys files (remove xs at) new × (closed h.store uri ≡ Ok (holdings_of keys files (remove xs at) new).store)
  closed_store new released =
      let store : Store = (holdings_of keys files xs pool).store in
      let documents = closed_documents path keys files xs at kept pool old there new released in
      let same = closed_files path keys files xs at kept pool old there new released in
      let left : without store path ≡ (holdings_of keys files (remove xs at) new).store =
      λ i. record { documents = sym documents i; files = sym same i; paths = paths_in keys } in (
        IsKept-closed path keys files xs at kept pool old there new released,
        ap (λ (g : Holdings). closed g.store uri) (sym view)
            ∙ ap (closed_at store) path_is
            ∙ ap (λ (d : Option OpenDocument). cond (is_some d) (Ok (without store path)) (Err NotOpen)) document_is
            ∙ ap Ok left,
      )

  pub closed_within : (new : Pool) → IsReleased pool new kept.text.0 → (totals : Totals) → AreWithin totals (map (file_in pool) files) → AreWithin totals (map (file_in new) files)
  closed_within new released totals within = AreWithin-same totals _ _ (closed_files path keys files xs at kept pool old there new released) within

-- ---- what is told of the store as it is seen

-- the place that a search gave, told of the path itself
pub found_seen : (path text : List ℕ) (documents : List OpenDocument) (place is : Option ℕ) → place ≡ position (is_at text) documents →
    text ≡ path → place ≡ is → position (is_at path) documents ≡ is
found_seen path text documents place is searched text_is place_is =
    ap (λ p. position (is_at p) documents) (sym text_is) ∙ sym searched ∙ place_is

if_some_at : (o : Option OpenDocument) (d : OpenDocument) (P : OpenDocument → Type 0) → o ≡ Some d → IfSome o P → P d
if_some_at o d P is holds = subst (λ (found : Option OpenDocument). IfSome found P) is holds

module _ (store : Store) (uri path : List ℕ) (version : ℤ) (edits : List Edit) (path_is : path_of uri ≡ Some path) where
  pub changed_none-seen : position (is_at path) store.documents ≡ None → changed store uri version edits ≡ Err NotOpen
  changed_none-seen none =
      ap (λ found. changed_at store found version edits) path_is
      ∙ ap (λ found. changed_document store path found version edits) (find-None (is_at path) store.documents none)

  module _ (at : ℕ) (found : position (is_at path) store.documents ≡ Some at) where
    pub changed-seen : (text : List ℕ) → IfSome (slice_get store.documents at) (λ document. text ≡ document.text) →
        changed store uri version edits ≡ and_then (λ t. Ok (with_text store path version t)) (after_edits edits 0 text)
    changed-seen text text_is =
        let one = found_document (is_at path) store.documents at found in
        ap (λ found. changed_at store found version edits) path_is
        ∙ ap (λ found. changed_document store path found version edits) (one.1)
        ∙ ap (λ t. and_then (λ t. Ok (with_text store path version t)) (after_edits edits 0 t)) (sym (if_some_at (slice_get store.documents at) one.0 (λ document. text ≡ document.text) one.2 text_is))

-- a place that was found is one of the list
pub found_within : (path : List ℕ) (documents : List OpenDocument) (at : ℕ) → position (is_at path) documents ≡ Some at → at < length documents
found_within path documents at found = (found_document (is_at path) documents at found).3

-- the parts of a store that is given another text at a place
module _ (h : Holdings) (keys : List (String Global)) (files : List (Option MemberText)) (xs : List KeptDocument) (pool : Pool) (path : List ℕ) (at : ℕ) (kept : KeptDocument)
    (old : IsKept keys files xs pool) (view : holdings_of keys files xs pool ≡ h)
    (seen : position (is_at path) h.store.documents ≡ Some at) (here : kept ≡ get_or xs at kept) where
  found_kept : position (is_kept_at path) xs ≡ Some at
  found_kept = sym (position_of-documents path pool xs) ∙ ap (λ (g : Holdings). position (is_at path) g.store.documents) view ∙ seen

  pub replaced_owned : 0 < owners_of pool kept.text.0
  replaced_owned = owned_text path keys files xs at kept pool old (IsFound-from_position path xs at kept found_kept here)

  pub replaced_store : (version : ℤ) (middle new : Pool) (text : List ℕ) (id : TextId) (second written : KeptDocument) →
      IsInterned pool middle text id.0 → IsReleased middle new kept.text.0 →
      second ≡ get_or xs at second → written ≡ record second { version = version; text = id } →
      IsKept keys files (set xs at written) new
      × ((holdings_of keys files (set xs at written) new).store ≡ with_text h.store path version text)
      × ((totals : Totals) → AreWithin totals (map (file_in pool) files) → AreWithin totals (map (file_in new) files))
  replaced_store version middle new text id second written interned released second_here written_is =
      let there : IsFound path xs at kept = IsFound-from_position path xs at kept found_kept here in
      let within : at < length xs = there.within in
      let some : Some second ≡ Some kept =
      ap Some second_here ∙ sym (slice_get-get_or xs at second within) ∙ slice_get-get_or xs at kept within ∙ ap Some (sym here) in
      let same : second ≡ kept = cc in
      let path_same : written.path ≡ kept.path = ap (λ (k : KeptDocument). k.path) written_is ∙ ap (λ (k : KeptDocument). k.path) same in
      let number_same : written.number ≡ kept.number = ap (λ (k : KeptDocument). k.number) written_is ∙ ap (λ (k : KeptDocument). k.number) same in
      let uri_same : written.uri ≡ kept.uri = ap (λ (k : KeptDocument). k.uri) written_is ∙ ap (λ (k : KeptDocument). k.uri) same in
      let language_same : written.language ≡ kept.language = ap (λ (k : KeptDocument). k.language) written_is ∙ ap (λ (k : KeptDocument). k.language) same in
      let version_is : written.version ≡ version = ap (λ (k : KeptDocument). k.version) written_is in
      let id_is : id ≡ written.text = sym (ap (λ (k : KeptDocument). k.text) written_is) in
      let taken : IsInterned pool middle text written.text.0 = subst (λ (t : TextId). IsInterned pool middle text t.0) id_is interned in
      let documents = changed_documents path keys files xs at kept pool old there middle new text written taken released path_same number_same version uri_same language_same version_is in
      let kept_files = changed_files path keys files xs at kept pool old there middle new text written taken released path_same number_same in
      let store : (holdings_of keys files (set xs at written) new).store ≡ with_text (holdings_of keys files xs pool).store path version text =
      λ i. record { documents = documents i; files = kept_files i; paths = paths_in keys } in (
        IsKept-changed path keys files xs at kept pool old there middle new text written taken released path_same number_same,
        store ∙ ap (λ (g : Holdings). with_text g.store path version text) view,
        λ totals are_within. AreWithin-same totals _ _ kept_files are_within,
      )
