-- What the store shows of what it holds (this project).
use Rattle.std.specs.Prelude.{◌≡◌, ℕ, ◌+◌, ◌<◌, Bool, false, List, Option, None, Some, Contains, count_by, slice_get, chars}
use Rattle.std.specs.Str.{bytes_eq}
use Rattle.text_pool.specs.Pool.{Pool, IsLive, text_of, owners_of, HasText}
use Rattle.document_store.specs.Store.{Store, OpenDocument, File, Readable, Unreadable, number_of}
use Rattle.document_store.specs.Holdings.{Holdings}
use Rattle.document_store.specs.declared.document.Document.{Document}
use Rattle.document_store.specs.declared.document.MemberText.{MemberText}
use Rattle.document_store.specs.declared.document.MemberText.TheVariants as member

-- a document is shown: the number of its path, its URI, its language and its version
pub record Shows (paths : List (List ℕ)) (document : OpenDocument) (shown : Document) : Type 0 where
  pub path : slice_get paths shown.path.0 ≡ Some document.path
  pub number : number_of paths document.path ≡ Some shown.path.0
  pub uri : chars shown.uri.now ≡ document.uri
  pub language : chars shown.language.now ≡ document.language
  pub version : shown.version ≡ document.version

-- the document of a place is shown, and nothing where there is none
abbrev pub IsShown : List (List ℕ) → Option OpenDocument → Option Document → Type 0
IsShown paths None None = Unit {0}
IsShown paths (Some document) (Some shown) = Shows paths document shown
IsShown paths None (Some shown) = ⊥
IsShown paths (Some document) None = ⊥

-- what is present is given: a text by its number in the pool
abbrev pub IsPresent : Pool → Option File → Option MemberText → Type 0
IsPresent pool None None = Unit {0}
IsPresent pool (Some (Readable text)) (Some (member.File id)) = HasText pool text id.0
IsPresent pool (Some Unreadable) (Some member.Unreadable) = Unit {0}
IsPresent pool asked shown = ⊥

-- the path of each open document has a number
abbrev pub HaveNumbers : Store → Type 0
HaveNumbers store = (document : OpenDocument) → Contains store.documents document → (n : ℕ) × (number_of store.paths document.path ≡ Some n)

-- each open document's text is in the pool
abbrev pub HasTexts : Holdings → Type 0
HasTexts holdings = (document : OpenDocument) → Contains holdings.store.documents document →
    (id : ℕ) × HasText holdings.pool document.text id

-- and so is that of each file that was read
abbrev pub HasFileTexts : Holdings → Type 0
HasFileTexts holdings = (text : List ℕ) → Contains holdings.store.files (Some (Readable text)) → (id : ℕ) × HasText holdings.pool text id

-- whether a file has this text
abbrev pub reads : List ℕ → Option File → Bool
reads text (Some (Readable other)) = bytes_eq other text
reads text (Some Unreadable) = false
reads text None = false

-- how many open documents and files have a text
abbrev pub holders_of : Store → List ℕ → ℕ
holders_of store text = count_by (λ (d : OpenDocument). bytes_eq d.text text) store.documents + count_by (reads text) store.files

-- each text of the pool has an owner for each open document and each file of it
abbrev pub IsOwnedByHolders : Holdings → Type 0
IsOwnedByHolders holdings = (id : ℕ) → IsLive holdings.pool id →
    owners_of holdings.pool id ≡ holders_of holdings.store (text_of holdings.pool id)

-- each text of the pool is that of an open document or of a file: it is gone with the last of them
abbrev pub HasNoOtherTexts : Holdings → Type 0
HasNoOtherTexts holdings = (id : ℕ) → IsLive holdings.pool id → 0 < holders_of holdings.store (text_of holdings.pool id)

-- no two numbers have one path
abbrev pub PathsDiffer : List (List ℕ) → Type 0
PathsDiffer paths = (number : ℕ) (path : List ℕ) → slice_get paths number ≡ Some path → number_of paths path ≡ Some number
