-- The store as its open documents, its files, the paths with a number and the pool. No public clause cites this file. This
-- project.
use Rattle.std.specs.Prelude.{◌≡◌, ℕ, ℤ, ◌+◌, ◌==◌, ◌<◌, ◌≤◌, ◌^◌, Bool, true, false, List, [], ◌∷◌, map, length, count_by, Option, Some, None, chars, string_bytes, if◌then◌else◌}
use Rattle.std.specs.Str.{bytes_eq}
use Rattle.std.specs.declared.string.String.{String}
use Rattle.std.specs.declared.alloc.Global.{Global}
use Rattle.text_pool.specs.Pool.{Pool, text_of, owners_of}
use Rattle.document_store.specs.Store.{OpenDocument, File, Readable, Unreadable, number_of}
use Rattle.document_store.specs.Holdings.{Holdings}
use Rattle.document_store.specs.Changes.{with_path}
use Rattle.document_store.specs.Members.{member_count, member_bytes, may_keep}
use Rattle.document_store.specs.Shown.{PathsDiffer}
use Rattle.document_store.specs.declared.document.MemberText.{MemberText}
use Rattle.document_store.specs.declared.document.MemberText.TheVariants as member
use Rattle.document_store.specs.declared.kept.KeptDocument.{KeptDocument}
use Rattle.document_store.specs.declared.members.Totals.{Totals}
use Rattle.document_store.specs.declared.opening.Opening.{Opening}

-- an open document as contracts see it
abbrev pub document_in : Pool → KeptDocument → OpenDocument
document_in pool kept = record {
  path = kept.path;
  uri = kept.uri;
  language = kept.language;
  version = kept.version;
  text = text_of pool kept.text.0;
}

-- what is kept of a file, as contracts see it
abbrev pub file_in : Pool → Option MemberText → Option File
file_in pool (Some (member.File id)) = Some (Readable (text_of pool id.0))
file_in pool (Some member.Unreadable) = Some Unreadable
file_in pool None = None

-- a key as the path that it spells, and all of them
abbrev pub path_in : String Global → List ℕ
path_in key = chars (string_bytes key)

abbrev pub paths_in : List (String Global) → List (List ℕ)
paths_in keys = map path_in keys

-- what is held, as contracts see it
abbrev pub holdings_of : List (String Global) → List (Option MemberText) → List KeptDocument → Pool → Holdings
holdings_of keys files documents pool = record {
  store = record { documents = map (document_in pool) documents; files = map (file_in pool) files; paths = paths_in keys };
  pool = pool;
}

-- whether a document is the one of a path
abbrev pub is_kept_at : List ℕ → KeptDocument → Bool
is_kept_at path kept = bytes_eq kept.path path

-- whether a document has the text of a number
abbrev pub has_text : ℕ → KeptDocument → Bool
has_text id kept = kept.text.0 == id

-- whether a file has it
abbrev pub reads_text : ℕ → Option MemberText → Bool
reads_text id (Some (member.File text)) = text.0 == id
reads_text id (Some member.Unreadable) = false
reads_text id None = false

-- each document has the number of its path
abbrev pub AreNumbered : List (List ℕ) → List KeptDocument → Type 0
AreNumbered paths [] = Unit {0}
AreNumbered paths (kept ∷ rest) = (number_of paths kept.path ≡ Some kept.number.0) × AreNumbered paths rest

-- no two documents have one path
abbrev pub AreApart : List KeptDocument → Type 0
AreApart documents = (path : List ℕ) → count_by (is_kept_at path) documents ≤ 1

-- how many documents and files have the text of a number
abbrev pub owners_in : List (Option MemberText) → List KeptDocument → ℕ → ℕ
owners_in files documents id = count_by (has_text id) documents + count_by (reads_text id) files

-- each text has as many owners as there are documents and files of it
abbrev pub AreOwned : Pool → List (Option MemberText) → List KeptDocument → Type 0
AreOwned pool files documents = (id : ℕ) → owners_of pool id ≡ owners_in files documents id

-- so many files are kept, and they have so many bytes together
pub record AreCounted (totals : Totals) (files : List (Option File)) : Type 0 where
  pub files_are : totals.files ≡ member_count files
  pub bytes_are : totals.bytes ≡ member_bytes files

-- and so many may be kept
pub record AreWithin (totals : Totals) (files : List (Option File)) : Type 0 where
  pub counted : AreCounted totals files
  pub fit : may_keep totals.files totals.bytes ≡ true

-- what is true of the parts of a store
pub record IsKept (keys : List (String Global)) (files : List (Option MemberText)) (documents : List KeptDocument) (pool : Pool) : Type 0 where
  pub numbered : AreNumbered (paths_in keys) documents
  pub apart : AreApart documents
  pub owned : AreOwned pool files documents
  pub few : length keys ≤ 2 ^ 32
  pub differ : PathsDiffer (paths_in keys)
  pub filed : length files ≡ length keys

-- a document of a path is ready to be taken in, once it has a text
pub record IsPrepared (paths : List (List ℕ)) (path uri language : List ℕ) (version : ℤ) (opening : Opening) : Type 0 where
  pub key : path_in opening.key ≡ path
  pub path_is : opening.path ≡ path
  pub number_is : number_of (with_path paths path) path ≡ Some opening.number.0
  pub few : length (with_path paths path) ≤ 2 ^ 32
  pub uri_is : opening.uri ≡ uri
  pub language_is : opening.language ≡ language
  pub version_is : opening.version ≡ version

-- ---- what is kept of a file, and the pool

-- its text, if it has one, has an owner
abbrev pub IsOwnedIn : Pool → Option MemberText → Type 0
IsOwnedIn pool (Some (member.File id)) = 0 < owners_of pool id.0
IsOwnedIn pool (Some member.Unreadable) = Unit {0}
IsOwnedIn pool None = Unit {0}

-- one where a file has the text of a number
abbrev pub owner_by : ℕ → Option MemberText → ℕ
owner_by id file = if reads_text id file then 1 else 0

-- the texts of these owners are what they were
pub record TextsStay (old new : Pool) (owners : ℕ → ℕ) : Type 0 where
  pub stay : (id : ℕ) → 0 < owners id → text_of new id ≡ text_of old id

-- a file that was read was taken into the pool
pub record IsTakenIn (old new : Pool) (read : File) (file : MemberText) : Type 0 where
  pub is : file_in new (Some file) ≡ Some read
  pub owned : (id : ℕ) → owners_of new id ≡ owners_of old id + owner_by id (Some file)
  pub stays : TextsStay old new (owners_of old)

-- what was kept of a file was let go
pub record IsLetGo (old new : Pool) (file : Option MemberText) : Type 0 where
  pub owned : (id : ℕ) → owners_of new id + owner_by id file ≡ owners_of old id
  pub stays : TextsStay old new (owners_of new)
