-- The open documents by the numbers of their paths, and the queue of programs.
use Rattle.std.proofs.Common.{◌≡◌, ℕ, ◌+◌, ◌≤◌, Bool, true, false, not, ◌&&◌, ◌==◌, cond, List, [], ◌∷◌, ◌++◌, length, drop, take, map, filter, find, Option, Some, None, refl, sym, ap, ◌∙◌, subst, slice_get, append_assoc}
use Rattle.std.specs.Prelude.{codes, encode_utf8_all}
use Rattle.std.specs.Str.{bytes_eq}
use Rattle.std.proofs.lemmas.List.{append-nil}
use Rattle.hl_base.specs.declared.place.PathId.{PathId}
use Rattle.document_store.specs.Store.{Store, OpenDocument}
use Rattle.document_store.specs.Shown.{IsShown, Shows}
use Rattle.document_store.specs.declared.document.Document.{Document}
use Rattle.library_folders.specs.declared.folders.Folder.{Folder}
use Rattle.library_folders.specs.Folders.{is_member}
use Rattle.session_core.specs.Inside.{wanted_of, wanted_from}
use Rattle.session_core.specs.State.{number_at, is_number, is_program, is_queued, document_at, programs, with_programs}
use Rattle.session_core.proofs.ListLaws.{drop_some, drop_none, drop_all, take_front, find_first, find_later}

-- ---- documents

-- what is shown of a place is shown of a document
pub record ShowsAt (s : Store) (i : ℕ) (shown : Document) : Type 0 where
  pub document : OpenDocument
  pub is : slice_get s.documents i ≡ Some document
  pub shows : Shows s.paths document shown

pub shows_at : (s : Store) (i : ℕ) (shown : Document) → IsShown s.paths (slice_get s.documents i) (Some shown) → ShowsAt s i shown
shows_at s i shown is = by_document (slice_get s.documents i) refl is where
  by_document : (document : Option OpenDocument) → slice_get s.documents i ≡ document → IsShown s.paths document (Some shown) → ShowsAt s i shown
  by_document None e f = absurd f
  by_document (Some document) e f = record { document = document; is = e; shows = f }

-- where nothing is shown there is no document
shows_none : (paths : List (List ℕ)) (document : Option OpenDocument) → IsShown paths document None → document ≡ None
shows_none paths None is = refl
shows_none paths (Some document) is = absurd is

-- the number of a document that is shown
pub number_shown : (s : Store) (document : OpenDocument) (shown : Document) → Shows s.paths document shown → number_at s document ≡ shown.path
number_shown s document shown shows = rw shows.number refl

-- the search for the document of a number has come to this place
abbrev pub IsSearched : Store → PathId → ℕ → Type 0
IsSearched s n i = document_at s n ≡ find (λ d. is_number (number_at s d) n) (drop i s.documents)

pub search_begins : (s : Store) (n : PathId) → IsSearched s n 0
search_begins s n = refl

pub search_finds : (s : Store) (n : PathId) (i : ℕ) (shown : Document) → IsSearched s n i → IsShown s.paths (slice_get s.documents i) (Some shown)
    → (shown.path.0 == n.0) ≡ true → IsShown s.paths (document_at s n) (Some shown)
search_finds s n i shown searched is same =
    let at = shows_at s i shown is in
    let number = number_shown s at.document shown at.shows in
    let test : is_number (number_at s at.document) n ≡ true = ap (λ (m : PathId). m.0 == n.0) number ∙ same in
    let found : document_at s n ≡ Some at.document =
    searched ∙ ap (find (λ d. is_number (number_at s d) n)) (drop_some s.documents i at.document at.is)
    ∙ find_first (λ d. is_number (number_at s d) n) at.document (drop (i + 1) s.documents) test in
    subst (λ z. IsShown s.paths z (Some shown)) (sym found) at.shows

pub search_goes_on : (s : Store) (n : PathId) (i : ℕ) (shown : Document) → IsSearched s n i → IsShown s.paths (slice_get s.documents i) (Some shown)
    → (shown.path.0 == n.0) ≡ false → IsSearched s n (i + 1)
search_goes_on s n i shown searched is other =
    let at = shows_at s i shown is in
    let number = number_shown s at.document shown at.shows in
    let test : is_number (number_at s at.document) n ≡ false = ap (λ (m : PathId). m.0 == n.0) number ∙ other in
    searched ∙ ap (find (λ d. is_number (number_at s d) n)) (drop_some s.documents i at.document at.is)
    ∙ find_later (λ d. is_number (number_at s d) n) at.document (drop (i + 1) s.documents) test

pub search_fails : (s : Store) (n : PathId) (i : ℕ) → IsSearched s n i → IsShown s.paths (slice_get s.documents i) None → IsShown s.paths (document_at s n) None
search_fails s n i searched is =
    let none = drop_none s.documents i (shows_none s.paths (slice_get s.documents i) is) in
    subst (λ z. IsShown s.paths z None) (sym (searched ∙ ap (find (λ d. is_number (number_at s d) n)) none)) tt

pub search_ends : (s : Store) (n : PathId) (i : ℕ) → IsSearched s n i → length s.documents ≤ i → IsShown s.paths (document_at s n) None
search_ends s n i searched few =
    let none = drop_all s.documents i few in
    subst (λ z. IsShown s.paths z None) (sym (searched ∙ ap (find (λ d. is_number (number_at s d) n)) none)) tt

-- ---- programs

-- a document of the language of programs is one where it stands in no library folder
pub program_by_path : (folders : List Folder) (shown : OpenDocument) (path : List ℕ) (member : Bool) → bytes_eq (encode_utf8_all shown.language) (codes "hlasm") ≡ true
    → member ≡ is_member folders path → path ≡ shown.path → not member ≡ is_program folders shown
program_by_path folders shown path member language is same =
    ap not (is ∙ ap (is_member folders) same) ∙ sym (ap (λ b. b && not (is_member folders shown.path)) language)

-- and one of another language is none
pub program_by_language : (folders : List Folder) (shown : OpenDocument) → bytes_eq (encode_utf8_all shown.language) (codes "hlasm") ≡ false → false ≡ is_program folders shown
program_by_language folders shown other = sym (ap (λ b. b && not (is_member folders shown.path)) other)

-- ---- the queue

wanted_next : (folders : List Folder) (queue : List PathId) (s : Store) (document : OpenDocument) (rest : List OpenDocument)
    → wanted_from folders queue s (document ∷ rest) ≡ wanted_of folders queue document (number_at s document) ++ wanted_from folders queue s rest
wanted_next folders queue s document rest = by_program (is_program folders document) where
  number : PathId
  number = number_at s document

  by_queued : (b : Bool) (others : List PathId) → cond b (number ∷ others) others ≡ cond b (number ∷ []) [] ++ others
  by_queued true others = refl
  by_queued false others = refl

  by_program : (b : Bool) → filter (λ n. not (is_queued queue n)) (map (number_at s) (cond b (document ∷ filter (is_program folders) rest) (filter (is_program folders) rest)))
      ≡ cond (b && not (is_queued queue number)) (number ∷ []) [] ++ wanted_from folders queue s rest
  by_program true = by_queued (not (is_queued queue number)) (wanted_from folders queue s rest)
  by_program false = refl

-- the documents before this place are queued, where they are wanted
pub record IsQueuing (folders : List Folder) (s : Store) (queue now : List PathId) (i : ℕ) : Type 0 where
  pub more : List PathId
  pub is : now ≡ queue ++ more
  pub others : more ++ wanted_from folders queue s (drop i s.documents) ≡ wanted_from folders queue s s.documents

pub queuing_begins : (folders : List Folder) (s : Store) (queue : List PathId) → IsQueuing folders s queue queue 0
queuing_begins folders s queue = record { more = []; is = sym (append-nil queue); others = refl }

pub queuing_goes_on : (folders : List Folder) (s : Store) (queue now next : List PathId) (i : ℕ) (shown : Document) → IsQueuing folders s queue now i
    → IsShown s.paths (slice_get s.documents i) (Some shown)
    → ((document : OpenDocument) → Shows s.paths document shown → next ≡ now ++ wanted_of folders (take (length queue) now) document shown.path)
    → IsQueuing folders s queue next (i + 1)
queuing_goes_on folders s queue now next i shown queuing is grown =
    let at = shows_at s i shown is in
    let number = number_shown s at.document shown at.shows in
    let front : take (length queue) now ≡ queue = ap (take (length queue)) queuing.is ∙ take_front queue queuing.more in
    let added : next ≡ now ++ wanted_of folders queue at.document shown.path =
    grown at.document at.shows ∙ ap (λ z. now ++ wanted_of folders z at.document shown.path) front in
    record {
      more = queuing.more ++ wanted_of folders queue at.document shown.path;
      is = added ∙ ap (λ z. z ++ wanted_of folders queue at.document shown.path) queuing.is ∙ append_assoc queue queuing.more (wanted_of folders queue at.document shown.path);
      others = append_assoc queuing.more (wanted_of folders queue at.document shown.path) (wanted_from folders queue s (drop (i + 1) s.documents))
          ∙ ap (λ z. queuing.more ++ z)
          (ap (λ z. wanted_of folders queue at.document z ++ wanted_from folders queue s (drop (i + 1) s.documents)) (sym number)
          ∙ sym (wanted_next folders queue s at.document (drop (i + 1) s.documents)))
          ∙ ap (λ z. queuing.more ++ wanted_from folders queue s z) (sym (drop_some s.documents i at.document at.is))
          ∙ queuing.others;
    }

pub queuing_ends : (folders : List Folder) (s : Store) (queue now : List PathId) (i : ℕ) → IsQueuing folders s queue now i → drop i s.documents ≡ []
    → now ≡ with_programs queue (programs folders s)
queuing_ends folders s queue now i queuing none =
    let all : queuing.more ≡ wanted_from folders queue s s.documents =
    sym (append-nil queuing.more) ∙ ap (λ z. queuing.more ++ wanted_from folders queue s z) (sym none) ∙ queuing.others in
    queuing.is ∙ ap (λ z. queue ++ z) all

-- nothing is shown at the end of the documents
pub nothing_behind : (s : Store) (i : ℕ) → IsShown s.paths (slice_get s.documents i) None → drop i s.documents ≡ []
nothing_behind s i is = drop_none s.documents i (shows_none s.paths (slice_get s.documents i) is)
