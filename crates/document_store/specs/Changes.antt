-- What opening, changing and closing do to the documents (Language Server Protocol 3.17, "Text Document
-- Synchronization"): the store that follows, or why they are refused.
use Rattle.std.specs.Prelude.{◌≡◌, ℕ, ℤ, not, List, [], ◌∷◌, ◌++◌, Option, None, Some, Result, Ok, Err, length, map, filter, nat_le, is_some, if◌then◌else◌}
use Rattle.std.specs.List.{list_any}
use Rattle.std.specs.Str.{bytes_eq}
use Rattle.file_uri.specs.Paths.{path_of}
use Rattle.hl_base.specs.declared.edit.Edit.{Edit}
use Rattle.document_store.specs.Edits.{after_edits, and_then, is_too_long}
use Rattle.document_store.specs.Store.{Store, OpenDocument, document_of, is_at}
use Rattle.document_store.specs.declared.fault.StoreFault.{StoreFault}
use Rattle.document_store.specs.declared.fault.StoreFault.TheVariants.{AlreadyOpen, BadUri, NotOpen, OutOfMemory, TextTooLong, TooMany}
use Rattle.document_store.specs.declared.limits.TheConstants.{MOST_DOCUMENTS}

-- the paths with a number once this one has one: its own, or the next
abbrev pub with_path : List (List ℕ) → List ℕ → List (List ℕ)
with_path paths path = if list_any (bytes_eq path) paths then paths else paths ++ path ∷ []

-- what stands beside the paths, one for each, once this path has a number: beside a path that had none it goes last
abbrev pub beside_path : {X : Type 0} → List (List ℕ) → List ℕ → List X → X → List X
beside_path paths path others own = if list_any (bytes_eq path) paths then others else others ++ own ∷ []

-- the store with one document more, the last
abbrev pub with_document : Store → OpenDocument → Store
with_document store document = record {
  documents = store.documents ++ document ∷ [];
  files = beside_path store.paths document.path store.files None;
  paths = with_path store.paths document.path;
}

abbrev opened_at : Store → Option (List ℕ) → (uri language : List ℕ) → ℤ → List ℕ → Result Store StoreFault
opened_at store None uri language version text = Err BadUri
opened_at store (Some path) uri language version text =
    if is_some (document_of store path) then Err AlreadyOpen
    else (if nat_le MOST_DOCUMENTS (length store.documents) then Err TooMany
    else (if is_too_long text then Err TextTooLong
    else Ok (with_document store (record { path = path; uri = uri; language = language; version = version; text = text }))))

-- a document opened
abbrev pub opened : Store → (uri language : List ℕ) → ℤ → List ℕ → Result Store StoreFault
opened store uri language version text = opened_at store (path_of uri) uri language version text

-- the store with another version and text of the document of a path
abbrev pub with_text : Store → List ℕ → ℤ → List ℕ → Store
with_text store path version text =
    record store { documents = map (λ d. if is_at path d then record d { version = version; text = text } else d) store.documents }

abbrev pub changed_document : Store → List ℕ → Option OpenDocument → ℤ → List Edit → Result Store StoreFault
changed_document store path None version edits = Err NotOpen
changed_document store path (Some document) version edits =
    and_then (λ text. Ok (with_text store path version text)) (after_edits edits 0 document.text)

abbrev pub changed_at : Store → Option (List ℕ) → ℤ → List Edit → Result Store StoreFault
changed_at store None version edits = Err BadUri
changed_at store (Some path) version edits = changed_document store path (document_of store path) version edits

-- a document changed
abbrev pub changed : Store → List ℕ → ℤ → List Edit → Result Store StoreFault
changed store uri version edits = changed_at store (path_of uri) version edits

-- the store without the document of a path
abbrev pub without : Store → List ℕ → Store
without store path = record store { documents = filter (λ d. not (is_at path d)) store.documents }

abbrev pub closed_at : Store → Option (List ℕ) → Result Store StoreFault
closed_at store None = Err BadUri
closed_at store (Some path) = if is_some (document_of store path) then Ok (without store path) else Err NotOpen

-- a document closed
abbrev pub closed : Store → List ℕ → Result Store StoreFault
closed store uri = closed_at store (path_of uri)

-- A call answers as asked: the new store stands where the call is taken, and otherwise its refusal is given. Want of memory
-- may come in place of either.
abbrev pub Answers : {T : Type 0} → Result Store StoreFault → Result T StoreFault → Store → Type 0
Answers asked (Ok done) new = asked ≡ Ok new
Answers asked (Err OutOfMemory) new = Unit {0}
Answers asked (Err fault) new = asked ≡ Err fault

-- why a document may not be opened, if there is a reason
abbrev pub MayOpen : Store → (path text : List ℕ) → Result (Unit {0}) StoreFault → Type 0
MayOpen store path text asked =
    asked ≡ (if is_some (document_of store path) then Err AlreadyOpen
    else (if nat_le MOST_DOCUMENTS (length store.documents) then Err TooMany
    else (if is_too_long text then Err TextTooLong
    else Ok tt)))
