-- The text of a document that is found by its number, and its list.
use Rattle.std.proofs.Common.{◌≡◌, ℕ, ◌<◌, Bool, true, false, cond, ◌==◌, List, [], ◌∷◌, find, length, Option, Some, None, refl, sym, ap, ◌∙◌, subst, slice_get}
use Rattle.std.specs.Str.{chars}
use Rattle.std.proofs.lemmas.Bool.Decides.{Decides-eqb}
use Rattle.std.proofs.lemmas.List.Quantifiers.{position-Some}
use Rattle.std.proofs.lemmas.Slice.Eq.{bytes_eq-Decides}
use Rattle.std.specs.Prelude.{unwrap_or}
use Rattle.std.specs.Str.{bytes_eq}
use Rattle.hl_base.specs.declared.place.PathId.{PathId}
use Rattle.document_store.specs.Store.{Store, OpenDocument, number_of, document_of, is_at, file_of, present, present_at, File, Readable}
use Rattle.std.specs.Option.{option_and_then}
use Rattle.text_pool.specs.Pool.{Pool}
use Rattle.document_store.specs.Shown.{IsPresent, IsShown, Shows}
use Rattle.document_store.specs.declared.document.Document.{Document}
use Rattle.document_store.specs.declared.document.MemberText.{MemberText}
use Rattle.lsp_messages.specs.declared.outgoing.Diagnostic.{Diagnostic}
use Rattle.session_core.specs.declared.state.LastList.{LastList}
use Rattle.session_core.specs.Replies.{list_body}
use Rattle.session_core.specs.Diagnostics.{list_of}
use Rattle.session_core.specs.State.{State, number_at, is_number, document_at, last_list, with_list}
use Rattle.session_core.specs.Step.{quiet, says, IsEffect}
use Rattle.session_core.specs.Turn.{turn_at, publish, is_published}
use Rattle.session_core.proofs.ProgramLaws.{number_shown}

-- a path has one number
other_number : (paths : List (List ℕ)) (path other : List ℕ) (n : ℕ) → number_of paths path ≡ Some n → (unwrap_or (number_of paths other) 0 == n) ≡ false → bytes_eq other path ≡ true → true ≡ false
other_number paths path other n is differs same =
    let equal : other ≡ path = (bytes_eq-Decides other path).0 same in
    let number : unwrap_or (number_of paths other) 0 ≡ n = ap (λ z. unwrap_or (number_of paths z) 0) equal ∙ ap (λ z. unwrap_or z 0) is in
    sym ((Decides-eqb (unwrap_or (number_of paths other) 0) n).1 number) ∙ differs

-- of documents, the one of a number is the one of its path
found_at : (documents : List OpenDocument) (paths : List (List ℕ)) (n : ℕ) (document : OpenDocument) → number_of paths document.path ≡ Some n
    → find (λ (d : OpenDocument). unwrap_or (number_of paths d.path) 0 == n) documents ≡ Some document → find (is_at document.path) documents ≡ Some document
found_at [] paths n document is found = cc
found_at (first ∷ rest) paths n document is found =
    by_number (unwrap_or (number_of paths first.path) 0 == n) refl found (λ behind. found_at rest paths n document is behind) where
      by_path : (unwrap_or (number_of paths first.path) 0 == n) ≡ false → (b : Bool) → bytes_eq first.path document.path ≡ b → find (is_at document.path) rest ≡ Some document
          → cond b (Some first) (find (is_at document.path) rest) ≡ Some document
      by_path differs true same behind = let bad = other_number paths document.path first.path n is differs same in cc
      by_path differs false same behind = behind

      by_number : (b : Bool) → (unwrap_or (number_of paths first.path) 0 == n) ≡ b
          → cond b (Some first) (find (λ (d : OpenDocument). unwrap_or (number_of paths d.path) 0 == n) rest) ≡ Some document
          → (find (λ (d : OpenDocument). unwrap_or (number_of paths d.path) 0 == n) rest ≡ Some document → find (is_at document.path) rest ≡ Some document)
          → cond (bytes_eq first.path document.path) (Some first) (find (is_at document.path) rest) ≡ Some document
      by_number true same here later =
          let first_is : first ≡ document = cc in
          let path : bytes_eq first.path document.path ≡ true = (bytes_eq-Decides first.path document.path).1 (ap (λ (d : OpenDocument). d.path) first_is) in
          ap (λ b. cond b (Some first) (find (is_at document.path) rest)) path ∙ here
      by_number false differs behind later = by_path differs (bytes_eq first.path document.path) refl (later behind)

abbrev present_of : Store → List ℕ → Option OpenDocument → Option File
present_of s path (Some document) = Some (Readable document.text)
present_of s path None = file_of s path

-- the text of a document of a number is present at that number
pub present_document : (s : Store) (n : PathId) (document : OpenDocument) → document_at s n ≡ Some document → slice_get s.paths n.0 ≡ Some document.path
    → number_of s.paths document.path ≡ Some n.0 → present_at s n.0 ≡ Some (Readable document.text)
present_document s n document found path number =
    let at : document_of s document.path ≡ Some document = found_at s.documents s.paths n.0 document number found in
    ap (option_and_then (present s)) path ∙ ap (present_of s document.path) at

-- so what is present there is that text
pub present_is : (s : Store) (pool : Pool) (n : PathId) (document : OpenDocument) (shown : Option MemberText) → IsPresent pool (present_at s n.0) shown
    → document_at s n ≡ Some document → slice_get s.paths n.0 ≡ Some document.path → number_of s.paths document.path ≡ Some n.0
    → IsPresent pool (Some (Readable document.text)) shown
present_is s pool n document shown is found path number = subst (λ z. IsPresent pool z shown) (present_document s n document found path number) is

-- ---- the list of a program

-- what is found passes the test
pub found_passes : {X : Type 0} (test : X → Bool) (xs : List X) (x : X) → find test xs ≡ Some x → test x ≡ true
found_passes test [] x found = cc
found_passes test (y ∷ xs) x found = by_test (test y) refl found (λ behind. found_passes test xs x behind) where
  by_test : (b : Bool) → test y ≡ b → cond b (Some y) (find test xs) ≡ Some x → (find test xs ≡ Some x → test x ≡ true) → test x ≡ true
  by_test true passes here later = let same : y ≡ x = cc in ap test (sym same) ∙ passes
  by_test false fails behind later = later behind

-- the document of a number, as it is shown, has that number
pub record IsNumbered (s : Store) (n : PathId) (document : OpenDocument) : Type 0 where
  pub path : slice_get s.paths n.0 ≡ Some document.path
  pub number : number_of s.paths document.path ≡ Some n.0

pub numbered : (s : Store) (n : PathId) (document : OpenDocument) (shown : Document) → document_at s n ≡ Some document → Shows s.paths document shown
    → IsNumbered s n document
numbered s n document shown found shows =
    let passes = found_passes (λ d. is_number (number_at s d) n) s.documents document found in
    let same : shown.path.0 ≡ n.0 = (Decides-eqb shown.path.0 n.0).0 (ap (λ (m : PathId). m.0 == n.0) (sym (number_shown s document shown shows)) ∙ passes) in
    record { path = ap (slice_get s.paths) (sym same) ∙ shows.path; number = shows.number ∙ ap (λ z. Some z) same }

-- so the number is one of a path
pub number_within : (s : Store) (n : PathId) (shown : Document) → IsShown s.paths (document_at s n) (Some shown) → n.0 < length s.paths
number_within s n shown is = by_document (document_at s n) refl is where
  by_document : (document : Option OpenDocument) → document_at s n ≡ document → IsShown s.paths document (Some shown) → n.0 < length s.paths
  by_document None e f = absurd f
  by_document (Some document) e shows = (position-Some (bytes_eq document.path) s.paths n.0 [] (numbered s n document shown e shows).number).0

-- and it is the one of its path
pub found_of : (s : Store) (n : PathId) (document : OpenDocument) → document_at s n ≡ Some document → IsNumbered s n document → document_of s document.path ≡ Some document
found_of s n document found is = found_at s.documents s.paths n.0 document is.number found

-- the Turn of a number publishes this list of this document
pub record IsListed (s : State) (n : PathId) (shown : Document) (list : List Diagnostic) : Type 0 where
  pub document : OpenDocument
  pub found : document_at s.store n ≡ Some document
  pub number : number_of s.store.paths document.path ≡ Some n.0
  pub made : list ≡ list_of s n document
  pub turn : turn_at s n (document_at s.store n) ≡ publish s n document list
  pub uri : chars shown.uri.now ≡ document.uri
  pub version : shown.version ≡ document.version

-- what list is told of a document that is found and shown
abbrev pub TellsList : State → PathId → (shown : Document) → List Diagnostic → Type 0
TellsList s n shown list = (document : OpenDocument) → document_at s.store n ≡ Some document → Shows s.store.paths document shown → list ≡ list_of s n document

pub listed : (s : State) (n : PathId) (shown : Document) (list : List Diagnostic) → IsShown s.store.paths (document_at s.store n) (Some shown)
    → TellsList s n shown list → IsListed s n shown list
listed s n shown list is tells = by_document (document_at s.store n) refl is where
  by_document : (document : Option OpenDocument) → document_at s.store n ≡ document → IsShown s.store.paths document (Some shown) → IsListed s n shown list
  by_document None e f = absurd f
  by_document (Some document) e shows = record {
    document = document;
    found = e;
    number = (numbered s.store n document shown e shows).number;
    made = tells document e shows;
    turn = ap (turn_at s n) e ∙ ap (publish s n document) (sym (tells document e shows));
    uri = shows.uri;
    version = shows.version;
  }

-- it was published already
pub publish_again : (s : State) (n : PathId) (shown : Document) (list : List Diagnostic) → IsListed s n shown list
    → is_published (last_list s.published n) shown.version list ≡ true → IsEffect (turn_at s n (document_at s.store n)) s []
publish_again s n shown list is old =
    let test : is_published (last_list s.published n) is.document.version list ≡ true = ap (λ v. is_published (last_list s.published n) v list) (sym is.version) ∙ old in
    is.turn ∙ ap (λ b. cond b (quiet s) (says
    (record s { published = with_list s.published (record { path = n; version = is.document.version; list = list }) })
    (list_body is.document.uri (Some is.document.version) list))) test

-- it is published now
pub publish_new : (s : State) (n : PathId) (shown : Document) (list : List Diagnostic) (body : List ℕ) (published : List LastList) → IsListed s n shown list
    → is_published (last_list s.published n) shown.version list ≡ false → body ≡ list_body (chars shown.uri.now) (Some shown.version) list
    → published ≡ with_list s.published (record { path = n; version = shown.version; list = list })
    → IsEffect (turn_at s n (document_at s.store n)) (record s { published = published }) (body ∷ [])
publish_new s n shown list body published is fresh told kept =
    let test : is_published (last_list s.published n) is.document.version list ≡ false = ap (λ v. is_published (last_list s.published n) v list) (sym is.version) ∙ fresh in
    let step : turn_at s n (document_at s.store n) ≡ says
    (record s { published = with_list s.published (record { path = n; version = is.document.version; list = list }) })
    (list_body is.document.uri (Some is.document.version) list) = is.turn ∙ ap (λ b. cond b (quiet s) (says
    (record s { published = with_list s.published (record { path = n; version = is.document.version; list = list }) })
    (list_body is.document.uri (Some is.document.version) list))) test in
    let line : body ≡ list_body is.document.uri (Some is.document.version) list =
    told ∙ ap (λ u. list_body u (Some shown.version) list) is.uri ∙ ap (λ v. list_body is.document.uri (Some v) list) is.version in
    let newest : published ≡ with_list s.published (record { path = n; version = is.document.version; list = list }) =
    kept ∙ ap (λ v. with_list s.published (record { path = n; version = v; list = list })) is.version in
    step ∙ ap (λ p. says (record s { published = p }) (list_body is.document.uri (Some is.document.version) list)) (sym newest)
    ∙ ap (λ z. says (record s { published = published }) z) (sym line)
