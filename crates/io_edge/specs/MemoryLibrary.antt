-- A library in memory: what it holds, and what its calls answer (this project).
use Rattle.std.specs.Prelude.{ℕ, List, ◌++◌, find, Option, Result, Ok, Err}
use Rattle.std.specs.Option.{option_map}
use Rattle.std.specs.Str.{bytes_eq}
use Rattle.io_edge.specs.Counts.{one_more}
use Rattle.io_edge.specs.LibraryCall.{LibraryCall}
use Rattle.io_edge.specs.declared.fault.LibraryFault.{LibraryFault}
use Rattle.io_edge.specs.declared.fault.LibraryFault.TheVariants.{Failed, OutOfMemory}

-- a folder: its path and the names of its files
pub record Folder : Type 0 where
  pub path : List ℕ
  pub names : List (List ℕ)

-- a file: its path and its bytes
pub record File : Type 0 where
  pub path : List ℕ
  pub bytes : List ℕ

-- what a library in memory holds: its folders, its files, the numbers of the calls that are to fail, its calls so far
-- with their answers, and how many of them failed
pub record Shelf : Type 0 where
  pub folders : List Folder
  pub files : List File
  pub failing : List ℕ
  pub calls : List LibraryCall
  pub refusals : ℕ

-- the names in the first folder at a path
abbrev pub names_at : List Folder → List ℕ → Option (List (List ℕ))
names_at folders path = option_map (λ folder. folder.names) (find (λ folder. bytes_eq folder.path path) folders)

-- the bytes of the first file at a path
abbrev pub bytes_at : List File → List ℕ → Option (List ℕ)
bytes_at files path = option_map (λ file. file.bytes) (find (λ file. bytes_eq file.path path) files)

-- the count of failed calls after a call
abbrev pub refusals_after : {T : Type 0} → Result T LibraryFault → ℕ → ℕ
refusals_after (Ok _) refusals = refusals
refusals_after (Err Failed) refusals = one_more refusals
refusals_after (Err OutOfMemory) refusals = refusals

-- what is held after a call that adds this to the calls
abbrev pub after_call : {T : Type 0} → Shelf → List LibraryCall → Result T LibraryFault → Shelf
after_call shelf calls result = record {
  folders = shelf.folders;
  files = shelf.files;
  failing = shelf.failing;
  calls = shelf.calls ++ calls;
  refusals = refusals_after result shelf.refusals;
}
