-- The open documents, the files of members and the numbers of paths (this project). A document is named by the path of
-- its URI (Language Server Protocol 3.17, "TextDocumentItem").
use Rattle.std.specs.Prelude.{ℕ, ℤ, Bool, List, [], Option, None, Some, position, find, slice_get, slice_index_or}
use Rattle.std.specs.Option.{option_and_then}
use Rattle.std.specs.Str.{bytes_eq}

-- an open document: the path of its URI, the URI as it was opened, its language, version and text
pub record OpenDocument : Type 0 where
  pub path : List ℕ
  pub uri : List ℕ
  pub language : List ℕ
  pub version : ℤ
  pub text : List ℕ

-- what was last read of a file: a text, or that it cannot be read
pub data File : Type 0 where
  Readable : List ℕ → File
  Unreadable : File

-- The open documents in order of opening, the paths that have a number, in the order of their numbers from 0, and what is
-- kept of the file of each path, in the same order: what was last read of it, if anything.
pub record Store : Type 0 where
  pub documents : List OpenDocument
  pub files : List (Option File)
  pub paths : List (List ℕ)

-- the store of which nothing was asked
abbrev pub empty_store : Store
empty_store = record { documents = []; files = []; paths = [] }

-- whether a document is the one of a path
abbrev pub is_at : List ℕ → OpenDocument → Bool
is_at path document = bytes_eq document.path path

-- the open document of a path
abbrev pub document_of : Store → List ℕ → Option OpenDocument
document_of store path = find (is_at path) store.documents

-- the number of a path
abbrev pub number_of : List (List ℕ) → List ℕ → Option ℕ
number_of paths path = position (bytes_eq path) paths

-- what is kept of the file of the path of a number
abbrev pub file_at : Store → ℕ → Option File
file_at store number = slice_index_or store.files number None

-- what is kept of the file of a path
abbrev pub file_of : Store → List ℕ → Option File
file_of store path = option_and_then (file_at store) (number_of store.paths path)

abbrev pub present_in : Store → List ℕ → Option OpenDocument → Option File
present_in store path (Some document) = Some (Readable document.text)
present_in store path None = file_of store path

-- what is present at a path: the text of the open document, else the file
abbrev pub present : Store → List ℕ → Option File
present store path = present_in store path (document_of store path)

-- what is present at the path of a number
abbrev pub present_at : Store → ℕ → Option File
present_at store number = option_and_then (present store) (slice_get store.paths number)
