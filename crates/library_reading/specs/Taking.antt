-- Reading members (this project).
use Rattle.std.specs.Prelude.{ℕ, Bool, true, false, ◌&&◌, nat_le, List, [], ◌∷◌, length, chars, Option, None, Some, Result, Ok, Err, if◌then◌else◌}
use Rattle.std.specs.Str.{is_utf8}
use Rattle.text_pool.specs.declared.pool.TheConstants.{LONGEST_TEXT}
use Rattle.io_edge.specs.LibraryCall.{Answer, absent, found, refused}
use Rattle.document_store.specs.Store.{Store, File, Readable, Unreadable, number_of}
use Rattle.document_store.specs.Members.{file_set, file_dropped}
use Rattle.document_store.specs.declared.fault.StoreFault.{StoreFault}
use Rattle.library_reading.specs.Asked.{Asking, answered, ◌>>=◌, file_asked}
use Rattle.library_reading.specs.Log.{Log, said_full}

-- what readings have made of the documents and the log
pub record Taking : Type 0 where
  pub store : Store
  pub log : Log

-- a file of these bytes is a text, where they are UTF-8 and at most 4 MiB
abbrev pub file_of_bytes : List ℕ → File
file_of_bytes bytes = if is_utf8 bytes && nat_le (length bytes) LONGEST_TEXT then Readable (chars bytes) else Unreadable

-- what an answer says of a file: that there is none, that it cannot be read where the call was refused, or what it is
abbrev pub file_told : Answer (List ℕ) → Option File
file_told absent = None
file_told (found bytes) = Some (file_of_bytes bytes)
file_told refused = Some Unreadable

abbrev pub number_dropped : Store → Option ℕ → Store
number_dropped store None = store
number_dropped store (Some number) = file_dropped store number

-- the store without the file of a path
abbrev pub path_dropped : Store → (path : List ℕ) → Store
path_dropped store path = number_dropped store (number_of store.paths path)

-- behind a file, and whether there was room for it
pub record Passed : Type 0 where
  pub taking : Taking
  pub room : Bool

-- a file is taken where there is room; else nothing is kept of it, and the log says so
abbrev pub file_admitted : Taking → (path : List ℕ) → Result Store StoreFault → Passed
file_admitted taking path (Ok store) = record { taking = record taking { store = store }; room = true }
file_admitted taking path (Err fault) =
    record { taking = record { store = path_dropped taking.store path; log = said_full taking.log }; room = false }

-- what was told of a file stands in place of what was kept of it
abbrev pub file_taken : Taking → (path : List ℕ) → Option File → Passed
file_taken taking path None = record { taking = record taking { store = path_dropped taking.store path }; room = true }
file_taken taking path (Some file) = file_admitted taking path (file_set taking.store path file)

-- a member is read, for the first time or again
unfoldable pub member_read : (path : List ℕ) → Taking → Asking Passed
member_read path taking = do
  answer ← file_asked path
  answered (file_taken taking path (file_told answer))

-- each of these is read in turn, as long as there is room
abbrev pub each_with_room : {A : Type 0} → (A → Taking → Asking Passed) → List A → Taking → Asking Passed
each_with_room read [] taking = answered (record { taking = taking; room = true })
each_with_room read (first ∷ rest) taking =
    read first taking >>= (λ passed. if passed.room then each_with_room read rest passed.taking else answered passed)
