-- Which lists are of the documents as they are: what opening, changing, closing and publishing leave of that.
use Rattle.std.proofs.Common.{◌≡◌, ℕ, ℤ, ◌<◌, ◌≤◌, Bool, true, false, not, cond, ◌||◌, ◌==◌, List, [], ◌∷◌, ◌++◌, length, map, filter, find, Option, Some, None, option_map, Result, Ok, Err, refl, sym, ap, ◌∙◌, subst, arith, length-append}
use Rattle.std.specs.Prelude.{unwrap_or}
use Rattle.std.specs.List.{list_any}
use Rattle.std.specs.Option.{option_and_then}
use Rattle.std.specs.Str.{bytes_eq}
use Rattle.std.proofs.lemmas.Bool.Decides.{Decides-eqb}
use Rattle.std.proofs.lemmas.List.Quantifiers.{position-Some}
use Rattle.std.proofs.lemmas.Slice.Eq.{bytes_eq-Decides}
use Rattle.file_uri.specs.Paths.{path_of}
use Rattle.hl_base.specs.declared.edit.Edit.{Edit}
use Rattle.hl_base.specs.declared.place.PathId.{PathId}
use Rattle.lsp_messages.specs.declared.outgoing.Diagnostic.{Diagnostic}
use Rattle.document_store.specs.Store.{Store, OpenDocument, empty_store, number_of, document_of, is_at}
use Rattle.document_store.specs.Changes.{opened, changed, changed_at, changed_document, closed, closed_at, with_path, with_document, with_text, without as without_document}
use Rattle.document_store.specs.Edits.{after_edits, and_then}
use Rattle.document_store.specs.declared.fault.StoreFault.{StoreFault}
use Rattle.document_store.specs.declared.fault.StoreFault.TheVariants.{AlreadyOpen, NotOpen, TextTooLong, TooMany}
use Rattle.document_store.specs.declared.document.Document.{Document}
use Rattle.document_store.proofs.DocumentLemmas.{number_of-behind, with_path-new, number_of-last}
use Rattle.library_folders.specs.Folders.{is_member, parm_for, folders_for}
use Rattle.group_members.proofs.ChangeLaws.{IsSameIn-with_document, IsSameIn-with_text, IsSameIn-without}
use Rattle.program_names.specs.Assembly.{assembly_notes}
use Rattle.answers_feed.specs.Diagnostics.{published as reported}
use Rattle.answers_feed.specs.Laws.{IsSameLibrary}
use Rattle.answers_feed.specs.Sites.{sites_of}
use Rattle.answers_feed.proofs.SiteLaws.{same_sites, library_opened, library_changed, library_closed}
use Rattle.session_core.specs.declared.state.LastList.{LastList}
use Rattle.session_core.specs.Diagnostics.{diagnostics_of, list_of, members_of}
use Rattle.session_core.specs.Inside.{AreNumbered, IsSound, list_in, libraries_in}
use Rattle.session_core.specs.State.{State, Around, around_of, is_number, is_queued, document_at, number_named, without, last_list, without_list, published_without, with_list}
use Rattle.session_core.specs.Step.{quiet, says, IsEffect}
use Rattle.session_core.specs.Turn.{turn_at, is_published}
use Rattle.session_core.proofs.FreshLaws.{or_right, not_both, same_number, other_number, last_other, last_newest, published_itself}
use Rattle.session_core.proofs.MemberLaws.{AreSameMembers, members_same, member_outside}
use Rattle.session_core.proofs.StoreLaws.{IsFew, few_opened, few_changed, few_closed}
use Rattle.session_core.proofs.TextLaws.{IsListed}

-- ---- numbers of paths

-- whether a document's path has this number
abbrev has_number : (paths : List (List ℕ)) → ℕ → OpenDocument → Bool
has_number paths n document = unwrap_or (number_of paths document.path) 0 == n

-- the number of a path
abbrev path_number : (paths : List (List ℕ)) → List ℕ → Option PathId
path_number paths path = option_map (λ n. record { 0 = n }) (number_of paths path)

number_kept : (paths : List (List ℕ)) (path other : List ℕ) (n : ℕ) → number_of paths other ≡ Some n → number_of (with_path paths path) other ≡ Some n
number_kept paths path other n found = by_known (list_any (bytes_eq path) paths) where
  by_known : (b : Bool) → number_of (cond b paths (paths ++ path ∷ [])) other ≡ Some n
  by_known true = found
  by_known false = number_of-behind paths (path ∷ []) other n found

numbered_kept : (paths : List (List ℕ)) (path : List ℕ) (documents : List OpenDocument) → AreNumbered paths documents → AreNumbered (with_path paths path) documents
numbered_kept paths path [] all = tt
numbered_kept paths path (document ∷ others) ((n, found), all) = ((n, number_kept paths path document.path n found), numbered_kept paths path others all)

numbered_more : (paths : List (List ℕ)) (documents : List OpenDocument) (document : OpenDocument) → AreNumbered paths documents
    → (n : ℕ) × (number_of paths document.path ≡ Some n) → AreNumbered paths (documents ++ document ∷ [])
numbered_more paths [] document all one = (one, tt)
numbered_more paths (first ∷ others) document (is, all) one = (is, numbered_more paths others document all one)

-- a path that was entered has a number
entered : (paths : List (List ℕ)) (path : List ℕ) → (n : ℕ) × (number_of (with_path paths path) path ≡ Some n)
entered paths path = by_number (number_of paths path) refl where
  by_number : (found : Option ℕ) → number_of paths path ≡ found → (n : ℕ) × (number_of (with_path paths path) path ≡ Some n)
  by_number (Some n) e = (n, number_kept paths path path n e)
  by_number None e = (length paths, ap (λ z. number_of z path) (with_path-new paths path e) ∙ number_of-last paths path e)

numbered_with : (s : Store) (document : OpenDocument) → AreNumbered s.paths s.documents → AreNumbered (with_document s document).paths (with_document s document).documents
numbered_with s document all =
    numbered_more (with_path s.paths document.path) s.documents document (numbered_kept s.paths document.path s.documents all) (entered s.paths document.path)

longer : (paths : List (List ℕ)) (path : List ℕ) → length paths ≤ length (with_path paths path)
longer paths path = by_known (list_any (bytes_eq path) paths) where
  by_known : (b : Bool) → length paths ≤ length (cond b paths (paths ++ path ∷ []))
  by_known true = omega arith
  by_known false = omega (arith, length-append paths (path ∷ []))

-- ---- numbers that are left

-- one that is left was there, and is another
pub record IsLeft (listed : List PathId) (k n : PathId) : Type 0 where
  pub there : is_queued listed n ≡ true
  pub other : is_number n k ≡ false

left : (listed : List PathId) (k n : PathId) → is_queued (without listed (Some k)) n ≡ true → IsLeft listed k n
left [] k n is = cc
left (x ∷ listed) k n is = by_kept (is_number x k) refl is (λ behind. left listed k n behind) where
  others : List PathId
  others = without listed (Some k)

  later : IsLeft listed k n → IsLeft (x ∷ listed) k n
  later behind = record { there = or_right (is_number n x) (is_queued listed n) behind.there; other = behind.other }

  by_first : is_number x k ≡ false → (b : Bool) → is_number n x ≡ b → (b || is_queued others n) ≡ true → (is_queued others n ≡ true → IsLeft listed k n) → IsLeft (x ∷ listed) k n
  by_first differs true same here behind = record {
    there = ap (λ b. b || is_queued listed n) same;
    other = ap (λ (z : PathId). is_number z k) (same_number n x same) ∙ differs;
  }
  by_first differs false other here behind = later (behind here)

  by_kept : (b : Bool) → is_number x k ≡ b → is_queued (cond (not b) (x ∷ others) others) n ≡ true → (is_queued others n ≡ true → IsLeft listed k n) → IsLeft (x ∷ listed) k n
  by_kept true same there behind = later (behind there)
  by_kept false differs there behind = by_first differs (is_number n x) refl there behind

still : (listed : List PathId) (m : Option PathId) (n : PathId) → is_queued (without listed m) n ≡ true → is_queued listed n ≡ true
still listed None n is = is
still listed (Some k) n is = (left listed k n is).there

-- it is not the number of the path that was taken out
not_of : (paths : List (List ℕ)) (path : List ℕ) (listed : List PathId) (n : PathId) → is_queued (without listed (path_number paths path)) n ≡ true
    → (k : ℕ) → number_of paths path ≡ Some k → (k == n.0) ≡ false
not_of paths path listed n is k e =
    let there : is_queued (without listed (Some (record { 0 = k }))) n ≡ true =
    ap (λ (z : Option ℕ). is_queued (without listed (option_map (λ m. record { 0 = m }) z)) n) (sym e) ∙ is in
    other_number (record { 0 = k }) n (left listed (record { 0 = k }) n there).other

-- ---- opening

same_test : (paths : List (List ℕ)) (path : List ℕ) (n : ℕ) (document : OpenDocument) → (k : ℕ) × (number_of paths document.path ≡ Some k)
    → has_number (with_path paths path) n document ≡ has_number paths n document
same_test paths path n document (k, found) = ap (λ z. unwrap_or z 0 == n) (number_kept paths path document.path k found ∙ sym found)

find_opened : (paths : List (List ℕ)) (path : List ℕ) (n : ℕ) (documents : List OpenDocument) (document : OpenDocument) → AreNumbered paths documents
    → has_number (with_path paths path) n document ≡ false
    → find (has_number (with_path paths path) n) (documents ++ document ∷ []) ≡ find (has_number paths n) documents
find_opened paths path n [] document all other = ap (λ b. cond b (Some document) None) other
find_opened paths path n (first ∷ others) document (one, all) other =
    ap (λ b. cond b (Some first) (find (has_number (with_path paths path) n) (others ++ document ∷ []))) (same_test paths path n first one)
    ∙ ap (λ z. cond (has_number paths n first) (Some first) z) (find_opened paths path n others document all other)

not_equal : (a b : ℕ) → b < a → (a == b) ≡ false
not_equal a b less = by_test (a == b) refl where
  by_test : (c : Bool) → (a == b) ≡ c → c ≡ false
  by_test true same = let equal : a ≡ b = (Decides-eqb a b).0 same in absurd (omega arith)
  by_test false same = refl

-- a path that is opened has another number than those that are left
opened_other : (paths : List (List ℕ)) (path : List ℕ) (listed : List PathId) (n : PathId) → is_queued (without listed (path_number paths path)) n ≡ true
    → n.0 < length paths → (unwrap_or (number_of (with_path paths path) path) 0 == n.0) ≡ false
opened_other paths path listed n is within = by_number (number_of paths path) refl where
  by_number : (found : Option ℕ) → number_of paths path ≡ found → (unwrap_or (number_of (with_path paths path) path) 0 == n.0) ≡ false
  by_number (Some k) e = ap (λ z. unwrap_or z 0 == n.0) (number_kept paths path path k e) ∙ not_of paths path listed n is k e
  by_number None e =
      let last : number_of (with_path paths path) path ≡ Some (length paths) = ap (λ z. number_of z path) (with_path-new paths path e) ∙ number_of-last paths path e in
      ap (λ z. unwrap_or z 0 == n.0) last ∙ not_equal (length paths) n.0 within

-- ---- where members are as they were

-- a program's list is as it was
pub same_list : (around : Around) (old new : Store) (n : PathId) (document : OpenDocument) → IsSameLibrary (libraries_in around) old new → AreSameMembers around old new
    → list_in around new n document ≡ list_in around old n document
unfolding diagnostics_of
same_list around old new n document same members =
    ap (λ sites. reported n.0 sites (assembly_notes n.0 document.text (parm_for around.root around.configuration document.path)
    (members_of around.root around.configuration new document) around.budget)) (same_sites (libraries_in around) old new same n.0 document)
    ∙ ap (λ members. reported n.0 (sites_of (libraries_in around) old n.0 document)
    (assembly_notes n.0 document.text (parm_for around.root around.configuration document.path) members around.budget)) (members_same around old new document members)

listed_same : (around : Around) (old new : Store) (published : List LastList) (n : PathId) (document : OpenDocument) → IsSameLibrary (libraries_in around) old new
    → AreSameMembers around old new
    → is_published (last_list published n) document.version (list_in around old n document) ≡ true
    → is_published (last_list published n) document.version (list_in around new n document) ≡ true
listed_same around old new published n document same members is =
    ap (is_published (last_list published n) document.version) (same_list around old new n document same members) ∙ is

-- where nothing is listed
pub sound_none : (around : Around) (s : Store) (published : List LastList) → IsFew s → AreNumbered s.paths s.documents → IsSound [] around s published
sound_none around s published few numbered = record { few = few; numbered = numbered; given = λ n is. cc; are_listed = λ n document is found. cc }

-- where a document has changed: of a member nothing is listed, and of another document those that are left
sound_unless : (member : Bool) (fewer : List PathId) (around : Around) (s : Store) (published : List LastList) → IsFew s → AreNumbered s.paths s.documents
    → (member ≡ false → IsSound fewer around s published) → IsSound (cond member [] fewer) around s published
sound_unless true fewer around s published few numbered outside = sound_none around s published few numbered
sound_unless false fewer around s published few numbered outside = outside refl

-- whether the path of a URI stands in a library folder
abbrev pub TellsMember : Around → (path : Option (List ℕ)) → Bool → Type 0
TellsMember around wanted member = (path : List ℕ) → wanted ≡ Some path → member ≡ is_member (libraries_in around) path

-- ---- opening a document

sound_with : (listed : List PathId) (around : Around) (s : Store) (published : List LastList) (document : OpenDocument) → IsSound listed around s published → IsFew (with_document s document)
    → is_member (libraries_in around) document.path ≡ false → IsSound (without listed (path_number s.paths document.path)) around (with_document s document) published
sound_with listed around s published document sound few outside = record {
  few = few;
  numbered = numbered_with s document sound.numbered;
  given = λ n is. let within = sound.given n (still listed _ n is) in let more = longer s.paths document.path in omega arith;
  are_listed = λ n other is found.
      let there = still listed (path_number s.paths document.path) n is in
      let apart = opened_other s.paths document.path listed n is (sound.given n there) in
      listed_same around s (with_document s document) published n other (library_opened (libraries_in around) s document outside)
      (λ program. IsSameIn-with_document (folders_for around.root around.configuration program.path) s document (member_outside around program document.path outside))
      (sound.are_listed n other there (sym (find_opened s.paths document.path n.0 s.documents document sound.numbered apart) ∙ found));
}

taken_in : (s new : Store) (document : OpenDocument) (taken full long : Bool)
    → cond taken (Err AlreadyOpen) (cond full (Err TooMany) (cond long (Err TextTooLong) (Ok (with_document s document)))) ≡ Ok new → with_document s document ≡ new
taken_in s new document true full long is = cc
taken_in s new document false true long is = cc
taken_in s new document false false true is = cc
taken_in s new document false false false is = cc

pub sound_opened : (listed : List PathId) (around : Around) (s new : Store) (published : List LastList) (uri language : List ℕ) (version : ℤ) (text : List ℕ) (member : Bool)
    → opened s uri language version text ≡ Ok new → TellsMember around (path_of uri) member → IsSound listed around s published
    → IsSound (cond member [] (without listed (number_named s uri))) around new published
sound_opened listed around s new published uri language version text member is tells sound = by_path (path_of uri) refl where
  by_path : (path : Option (List ℕ)) → path_of uri ≡ path → IsSound (cond member [] (without listed (number_named s uri))) around new published
  by_path None e = let h = rw e at is in cc
  by_path (Some path) e =
      let h = rw e at is in
      let document : OpenDocument = record { path = path; uri = uri; language = language; version = version; text = text } in
      let same : with_document s document ≡ new = taken_in s new document _ _ _ h in
      let few : IsFew (with_document s document) = subst IsFew (sym same) (few_opened s new uri language version text is) in
      let here : IsSound (cond member [] (without listed (path_number s.paths path))) around new published =
      subst (λ (z : Store). IsSound (cond member [] (without listed (path_number s.paths path))) around z published) same
      (sound_unless member (without listed (path_number s.paths path)) around (with_document s document) published few (numbered_with s document sound.numbered)
      (λ not_member. sound_with listed around s published document sound few (sym (tells path e) ∙ not_member))) in
      subst (λ (z : Option (List ℕ)). IsSound (cond member [] (without listed (option_map (λ n. record { 0 = n }) (option_and_then (number_of s.paths) z)))) around new published) (sym e) here

-- ---- changing

-- a document with another version and text, where it is the one of a path
abbrev rewritten : (path : List ℕ) → ℤ → List ℕ → OpenDocument → OpenDocument
rewritten path version text document = cond (is_at path document) (record document { version = version; text = text }) document

same_path : (path : List ℕ) (version : ℤ) (text : List ℕ) (document : OpenDocument) → (rewritten path version text document).path ≡ document.path
same_path path version text document = by_at (is_at path document) where
  by_at : (b : Bool) → (cond b (record document { version = version; text = text }) document).path ≡ document.path
  by_at true = refl
  by_at false = refl

numbered_changed : (paths : List (List ℕ)) (path : List ℕ) (version : ℤ) (text : List ℕ) (documents : List OpenDocument) → AreNumbered paths documents
    → AreNumbered paths (map (rewritten path version text) documents)
numbered_changed paths path version text [] all = tt
numbered_changed paths path version text (document ∷ others) ((n, found), all) =
    ((n, ap (number_of paths) (same_path path version text document) ∙ found), numbered_changed paths path version text others all)

-- a document of a path whose number is another is passed over
passed_over : (paths : List (List ℕ)) (path : List ℕ) (n : ℕ) (document : OpenDocument) → (k : ℕ) × (number_of paths document.path ≡ Some k) → ((k : ℕ) → number_of paths path ≡ Some k → (k == n) ≡ false)
    → is_at path document ≡ true → has_number paths n document ≡ false
passed_over paths path n document (k, found) other at =
    let same : document.path ≡ path = (bytes_eq-Decides document.path path).0 at in
    ap (λ z. unwrap_or z 0 == n) found ∙ other k (ap (number_of paths) (sym same) ∙ found)

find_changed : (paths : List (List ℕ)) (path : List ℕ) (version : ℤ) (text : List ℕ) (n : ℕ) (documents : List OpenDocument) (found : OpenDocument) → AreNumbered paths documents
    → ((k : ℕ) → number_of paths path ≡ Some k → (k == n) ≡ false)
    → find (has_number paths n) (map (rewritten path version text) documents) ≡ Some found → find (has_number paths n) documents ≡ Some found
find_changed paths path version text n [] found all other is = cc
find_changed paths path version text n (first ∷ others) found (one, all) other is =
    by_at (is_at path first) refl is (λ behind. find_changed paths path version text n others found all other behind) where
      rest : Option OpenDocument
      rest = find (has_number paths n) (map (rewritten path version text) others)

      by_test : (b : Bool) → cond b (Some first) rest ≡ Some found → (rest ≡ Some found → find (has_number paths n) others ≡ Some found)
          → cond b (Some first) (find (has_number paths n) others) ≡ Some found
      by_test true here later = here
      by_test false behind later = later behind

      by_at : (b : Bool) → is_at path first ≡ b
          → cond (has_number paths n (cond b (record first { version = version; text = text }) first)) (Some (cond b (record first { version = version; text = text }) first)) rest ≡ Some found
          → (rest ≡ Some found → find (has_number paths n) others ≡ Some found)
          → cond (has_number paths n first) (Some first) (find (has_number paths n) others) ≡ Some found
      by_at true at here later =
          let fails = passed_over paths path n first one other at in
          let behind : rest ≡ Some found = ap (λ b. cond b (Some (record first { version = version; text = text })) rest) (sym fails) ∙ here in
          ap (λ b. cond b (Some first) (find (has_number paths n) others)) fails ∙ later behind
      by_at false at here later = by_test (has_number paths n first) here later

sound_rewritten : (listed : List PathId) (around : Around) (s : Store) (published : List LastList) (path : List ℕ) (version : ℤ) (text : List ℕ) → IsSound listed around s published
    → IsFew (with_text s path version text) → is_member (libraries_in around) path ≡ false
    → IsSound (without listed (path_number s.paths path)) around (with_text s path version text) published
sound_rewritten listed around s published path version text sound few outside = record {
  few = few;
  numbered = numbered_changed s.paths path version text s.documents sound.numbered;
  given = λ n is. sound.given n (still listed _ n is);
  are_listed = λ n other is found.
      listed_same around s (with_text s path version text) published n other (library_changed (libraries_in around) s path text version outside)
      (λ program. IsSameIn-with_text (folders_for around.root around.configuration program.path) s path (member_outside around program path outside) version text)
      (sound.are_listed n other (still listed (path_number s.paths path) n is)
      (find_changed s.paths path version text n.0 s.documents other sound.numbered (not_of s.paths path listed n is) found));
}

sound_text : (listed : List PathId) (around : Around) (s new : Store) (published : List LastList) (path : List ℕ) (version : ℤ) (member : Bool) (text : Result (List ℕ) StoreFault)
    → and_then (λ changed. Ok (with_text s path version changed)) text ≡ Ok new → member ≡ is_member (libraries_in around) path → IsSound listed around s published → IsFew new
    → IsSound (cond member [] (without listed (path_number s.paths path))) around new published
sound_text listed around s new published path version member (Err fault) is tells sound few = cc
sound_text listed around s new published path version member (Ok text) is tells sound few =
    let same : with_text s path version text ≡ new = cc in
    let here : IsFew (with_text s path version text) = subst IsFew (sym same) few in
    subst (λ (z : Store). IsSound (cond member [] (without listed (path_number s.paths path))) around z published) same
    (sound_unless member (without listed (path_number s.paths path)) around (with_text s path version text) published here
    (numbered_changed s.paths path version text s.documents sound.numbered)
    (λ not_member. sound_rewritten listed around s published path version text sound here (sym tells ∙ not_member)))

sound_document : (listed : List PathId) (around : Around) (s new : Store) (published : List LastList) (path : List ℕ) (document : Option OpenDocument) (version : ℤ) (edits : List Edit) (member : Bool)
    → changed_document s path document version edits ≡ Ok new → member ≡ is_member (libraries_in around) path → IsSound listed around s published → IsFew new
    → IsSound (cond member [] (without listed (path_number s.paths path))) around new published
sound_document listed around s new published path None version edits member is tells sound few = cc
sound_document listed around s new published path (Some document) version edits member is tells sound few =
    sound_text listed around s new published path version member (after_edits edits 0 document.text) is tells sound few

sound_changed_at : (listed : List PathId) (around : Around) (s new : Store) (published : List LastList) (path : Option (List ℕ)) (version : ℤ) (edits : List Edit) (member : Bool)
    → changed_at s path version edits ≡ Ok new → TellsMember around path member → IsSound listed around s published → IsFew new
    → IsSound (cond member [] (without listed (option_map (λ n. record { 0 = n }) (option_and_then (number_of s.paths) path)))) around new published
sound_changed_at listed around s new published None version edits member is tells sound few = cc
sound_changed_at listed around s new published (Some path) version edits member is tells sound few =
    sound_document listed around s new published path (document_of s path) version edits member is (tells path refl) sound few

pub sound_changed : (listed : List PathId) (around : Around) (s new : Store) (published : List LastList) (uri : List ℕ) (version : ℤ) (edits : List Edit) (member : Bool)
    → changed s uri version edits ≡ Ok new → TellsMember around (path_of uri) member → IsSound listed around s published
    → IsSound (cond member [] (without listed (number_named s uri))) around new published
sound_changed listed around s new published uri version edits member is tells sound =
    sound_changed_at listed around s new published (path_of uri) version edits member is tells sound (few_changed s new uri version edits is sound.few)

-- ---- closing

numbered_left : (paths : List (List ℕ)) (path : List ℕ) (documents : List OpenDocument) → AreNumbered paths documents → AreNumbered paths (filter (λ d. not (is_at path d)) documents)
numbered_left paths path [] all = tt
numbered_left paths path (first ∷ others) (one, all) = by_at (is_at path first) (numbered_left paths path others all) where
  by_at : (b : Bool) → AreNumbered paths (filter (λ d. not (is_at path d)) others)
      → AreNumbered paths (cond (not b) (first ∷ filter (λ d. not (is_at path d)) others) (filter (λ d. not (is_at path d)) others))
  by_at true behind = behind
  by_at false behind = (one, behind)

find_left : (paths : List (List ℕ)) (path : List ℕ) (n : ℕ) (documents : List OpenDocument) (found : OpenDocument) → AreNumbered paths documents
    → ((k : ℕ) → number_of paths path ≡ Some k → (k == n) ≡ false)
    → find (has_number paths n) (filter (λ d. not (is_at path d)) documents) ≡ Some found → find (has_number paths n) documents ≡ Some found
find_left paths path n [] found all other is = cc
find_left paths path n (first ∷ others) found (one, all) other is =
    by_at (is_at path first) refl is (λ behind. find_left paths path n others found all other behind) where
      kept : List OpenDocument
      kept = filter (λ d. not (is_at path d)) others

      by_test : (b : Bool) → cond b (Some first) (find (has_number paths n) kept) ≡ Some found → (find (has_number paths n) kept ≡ Some found → find (has_number paths n) others ≡ Some found)
          → cond b (Some first) (find (has_number paths n) others) ≡ Some found
      by_test true here later = here
      by_test false behind later = later behind

      by_at : (b : Bool) → is_at path first ≡ b → find (has_number paths n) (cond (not b) (first ∷ kept) kept) ≡ Some found
          → (find (has_number paths n) kept ≡ Some found → find (has_number paths n) others ≡ Some found)
          → cond (has_number paths n first) (Some first) (find (has_number paths n) others) ≡ Some found
      by_at true at behind later = ap (λ b. cond b (Some first) (find (has_number paths n) others)) (passed_over paths path n first one other at) ∙ later behind
      by_at false at here later = by_test (has_number paths n first) here later

-- what was last published of another program is there still
last_left : (published : List LastList) (k n : PathId) → is_number k n ≡ false → last_list (without_list published k) n ≡ last_list published n
last_left [] k n other = refl
last_left (first ∷ published) k n other = by_kept (is_number first.path k) refl (last_left published k n other) where
  others : List LastList
  others = without_list published k

  by_kept : (b : Bool) → is_number first.path k ≡ b → last_list others n ≡ last_list published n
      → last_list (cond (not b) (first ∷ others) others) n ≡ cond (is_number first.path n) (Some first) (last_list published n)
  by_kept true same behind =
      let path : is_number first.path n ≡ false = ap (λ (z : PathId). is_number z n) (same_number first.path k same) ∙ other in
      behind ∙ ap (λ b. cond b (Some first) (last_list published n)) (sym path)
  by_kept false differs behind = ap (λ z. cond (is_number first.path n) (Some first) z) behind

last_left_of : (published : List LastList) (listed : List PathId) (m : Option PathId) (n : PathId) → is_queued (without listed m) n ≡ true
    → last_list (published_without published m) n ≡ last_list published n
last_left_of published listed None n is = refl
last_left_of published listed (Some k) n is = last_left published k n (other_number k n (left listed k n is).other)

sound_without : (listed : List PathId) (around : Around) (s : Store) (published : List LastList) (path : List ℕ) → IsSound listed around s published → IsFew (without_document s path)
    → is_member (libraries_in around) path ≡ false
    → IsSound (without listed (path_number s.paths path)) around (without_document s path) (published_without published (path_number s.paths path))
sound_without listed around s published path sound few outside = record {
  few = few;
  numbered = numbered_left s.paths path s.documents sound.numbered;
  given = λ n is. sound.given n (still listed _ n is);
  are_listed = λ n other is found.
      ap (λ z. is_published z other.version (list_in around (without_document s path) n other)) (last_left_of published listed (path_number s.paths path) n is)
      ∙ listed_same around s (without_document s path) published n other (library_closed (libraries_in around) s path outside)
      (λ program. IsSameIn-without (folders_for around.root around.configuration program.path) s path (member_outside around program path outside))
      (sound.are_listed n other (still listed (path_number s.paths path) n is) (find_left s.paths path n.0 s.documents other sound.numbered (not_of s.paths path listed n is) found));
}

sound_gone : (listed : List PathId) (around : Around) (s new : Store) (published : List LastList) (path : List ℕ) (member is_open : Bool) → cond is_open (Ok (without_document s path)) (Err NotOpen) ≡ Ok new
    → member ≡ is_member (libraries_in around) path → IsSound listed around s published → IsFew new
    → IsSound (cond member [] (without listed (path_number s.paths path))) around new (published_without published (path_number s.paths path))
sound_gone listed around s new published path member false is tells sound few = cc
sound_gone listed around s new published path member true is tells sound few =
    let same : without_document s path ≡ new = cc in
    let here : IsFew (without_document s path) = subst IsFew (sym same) few in
    subst (λ (z : Store). IsSound (cond member [] (without listed (path_number s.paths path))) around z (published_without published (path_number s.paths path))) same
    (sound_unless member (without listed (path_number s.paths path)) around (without_document s path) (published_without published (path_number s.paths path)) here
    (numbered_left s.paths path s.documents sound.numbered)
    (λ not_member. sound_without listed around s published path sound here (sym tells ∙ not_member)))

abbrev named : Store → Option (List ℕ) → Option PathId
named s path = option_map (λ n. record { 0 = n }) (option_and_then (number_of s.paths) path)

sound_closed_at : (listed : List PathId) (around : Around) (s new : Store) (published : List LastList) (path : Option (List ℕ)) (member : Bool) → closed_at s path ≡ Ok new
    → TellsMember around path member → IsSound listed around s published → IsFew new
    → IsSound (cond member [] (without listed (named s path))) around new (published_without published (named s path))
sound_closed_at listed around s new published None member is tells sound few = cc
sound_closed_at listed around s new published (Some path) member is tells sound few = sound_gone listed around s new published path member _ is (tells path refl) sound few

pub sound_closed : (listed : List PathId) (around : Around) (s new : Store) (published : List LastList) (uri : List ℕ) (member : Bool) → closed s uri ≡ Ok new
    → TellsMember around (path_of uri) member → IsSound listed around s published
    → IsSound (cond member [] (without listed (number_named s uri))) around new (published_without published (number_named s uri))
sound_closed listed around s new published uri member is tells sound =
    sound_closed_at listed around s new published (path_of uri) member is tells sound (few_closed s new uri is sound.few)

-- ---- publishing

pub sound_start : (around : Around) → IsSound [] around empty_store []
sound_start around = sound_none around empty_store [] (omega arith) tt

-- a program that is listed is quiet
pub turn_listed : (s : State) (listed : List PathId) (n : PathId) → IsSound listed (around_of s) s.store s.published → is_queued listed n ≡ true → IsEffect (turn_at s n (document_at s.store n)) s []
turn_listed s listed n sound is = by_document (document_at s.store n) refl where
  by_old : (b : Bool) (published : List LastList) (body : List ℕ) → b ≡ true → IsEffect (cond b (quiet s) (says (record s { published = published }) body)) s []
  by_old true published body old = refl
  by_old false published body old = cc

  by_document : (document : Option OpenDocument) → document_at s.store n ≡ document → IsEffect (turn_at s n document) s []
  by_document None e = refl
  by_document (Some document) e = by_old (is_published (last_list s.published n) document.version (list_of s n document)) _ _ (sound.are_listed n document is e)

-- of two that are queued one after another
queued_in : (listed : List PathId) (n m : PathId) → is_queued (listed ++ n ∷ []) m ≡ true → is_number m n ≡ false → is_queued listed m ≡ true
queued_in [] n m is other = let none : (is_number m n || false) ≡ false = ap (λ b. b || false) other in absurd (not_both (is_number m n || false) is none)
queued_in (x ∷ listed) n m is other = by_first (is_number m x) is (λ behind. queued_in listed n m behind other) where
  by_first : (b : Bool) → (b || is_queued (listed ++ n ∷ []) m) ≡ true → (is_queued (listed ++ n ∷ []) m ≡ true → is_queued listed m ≡ true) → (b || is_queued listed m) ≡ true
  by_first true here later = refl
  by_first false here later = later here

-- a program more is listed
listed_more : (listed : List PathId) (around : Around) (s : Store) (published newer : List LastList) (n : PathId) (document : OpenDocument) → IsSound listed around s published
    → document_at s n ≡ Some document → n.0 < length s.paths → is_published (last_list newer n) document.version (list_in around s n document) ≡ true
    → ((m : PathId) → is_number m n ≡ false → last_list newer m ≡ last_list published m) → IsSound (listed ++ n ∷ []) around s newer
listed_more listed around s published newer n document sound found within here others = record {
  few = sound.few;
  numbered = sound.numbered;
  given = λ m is. given m (is_number m n) refl is;
  are_listed = λ m other is at. listed_at m other is at (is_number m n) refl;
}
  where
    given : (m : PathId) (b : Bool) → is_number m n ≡ b → is_queued (listed ++ n ∷ []) m ≡ true → m.0 < length s.paths
    given m true same is = subst (λ (k : PathId). k.0 < length s.paths) (sym (same_number m n same)) within
    given m false differs is = sound.given m (queued_in listed n m is differs)

    listed_at : (m : PathId) (other : OpenDocument) → is_queued (listed ++ n ∷ []) m ≡ true → document_at s m ≡ Some other → (b : Bool) → is_number m n ≡ b
        → is_published (last_list newer m) other.version (list_in around s m other) ≡ true
    listed_at m other is at true same =
        let number = same_number m n same in
        let both : Some document ≡ Some other = sym found ∙ ap (document_at s) (sym number) ∙ at in
        let one : document ≡ other = cc in
        subst (λ (z : OpenDocument). is_published (last_list newer m) z.version (list_in around s m z) ≡ true) one
        (subst (λ (k : PathId). is_published (last_list newer k) document.version (list_in around s k document) ≡ true) (sym number) here)
    listed_at m other is at false differs =
        ap (λ z. is_published z other.version (list_in around s m other)) (others m differs) ∙ sound.are_listed m other (queued_in listed n m is differs) at

within_paths : (s : State) (n : PathId) (shown : Document) (list : List Diagnostic) → IsListed s n shown list → n.0 < length s.store.paths
within_paths s n shown list is = (position-Some (bytes_eq is.document.path) s.store.paths n.0 [] is.number).0

-- what was published already is listed
pub sound_again : (s : State) (listed : List PathId) (n : PathId) (shown : Document) (list : List Diagnostic) → IsListed s n shown list
    → is_published (last_list s.published n) shown.version list ≡ true → IsSound listed (around_of s) s.store s.published → IsSound (listed ++ n ∷ []) (around_of s) s.store s.published
sound_again s listed n shown list is old sound =
    listed_more listed (around_of s) s.store s.published s.published n is.document sound is.found (within_paths s n shown list is)
    (ap (λ v. is_published (last_list s.published n) v (list_of s n is.document)) (sym is.version)
    ∙ ap (λ l. is_published (last_list s.published n) shown.version l) (sym is.made) ∙ old)
    (λ m differs. refl)

-- what is published now is listed
pub sound_new : (s : State) (listed : List PathId) (n : PathId) (shown : Document) (list : List Diagnostic) (published : List LastList) → IsListed s n shown list
    → published ≡ with_list s.published (record { path = n; version = shown.version; list = list }) → IsSound listed (around_of s) s.store s.published
    → IsSound (listed ++ n ∷ []) (around_of s) s.store published
sound_new s listed n shown list published is kept sound =
    let last : LastList = record { path = n; version = shown.version; list = list } in
    let newest : last_list published n ≡ Some last = ap (λ z. last_list z n) kept ∙ last_newest s.published last in
    listed_more listed (around_of s) s.store s.published published n is.document sound is.found (within_paths s n shown list is)
    (ap (λ z. is_published z is.document.version (list_of s n is.document)) newest
    ∙ ap (λ v. is_published (Some last) v (list_of s n is.document)) (sym is.version)
    ∙ ap (λ l. is_published (Some last) shown.version l) (sym is.made) ∙ published_itself n shown.version list)
    (λ m differs. ap (λ z. last_list z m) kept ∙ last_other s.published last m (other_number n m differs))
