-- The files of members that are kept beside the open documents (this project).
use Rattle.std.specs.Prelude.{ℕ, ◌&&◌, Bool, List, [], ◌∷◌, ◌++◌, Option, None, Some, Result, Ok, Err, length, map, count_by, sum_by, is_some, nat_le, slice_set, chars, encode_utf8_all, if◌then◌else◌}
use Rattle.std.specs.Borrow.{Bor}
use Rattle.std.specs.String.{string_bytes}
use Rattle.std.specs.declared.string.String.{String}
use Rattle.std.specs.declared.alloc.Global.{Global}
use Rattle.document_store.specs.Store.{Store, File, Readable, Unreadable, number_of}
use Rattle.document_store.specs.Changes.{with_path}
use Rattle.document_store.specs.declared.fault.StoreFault.{StoreFault}
use Rattle.document_store.specs.declared.fault.StoreFault.TheVariants.{LibraryTooLarge}

-- how many files are kept at most, and how many bytes their texts have together at most
abbrev pub most_members : ℕ
most_members = 16000

abbrev pub most_bytes : ℕ
most_bytes = 67108864

-- what is read of a file: its text, or nothing where it cannot be read
abbrev pub file_read : Option (Bor (List ℕ)) → File
file_read (Some text) = Readable (chars text.now)
file_read None = Unreadable

-- the same of a text that is given away
abbrev pub file_given : Option (String Global) → File
file_given (Some text) = Readable (chars (string_bytes text))
file_given None = Unreadable

-- how many bytes of UTF-8 a file has; one that cannot be read has none
abbrev pub size_of : File → ℕ
size_of (Readable text) = length (encode_utf8_all text)
size_of Unreadable = 0

abbrev pub size_kept : Option File → ℕ
size_kept (Some file) = size_of file
size_kept None = 0

-- how many files are kept, those that cannot be read among them
abbrev pub member_count : List (Option File) → ℕ
member_count files = count_by is_some files

-- how many bytes they have together
abbrev pub member_bytes : List (Option File) → ℕ
member_bytes files = sum_by size_kept files

-- whether so many files with so many bytes may be kept
abbrev pub may_keep : (files bytes : ℕ) → Bool
may_keep files bytes = nat_le files most_members && nat_le bytes most_bytes

-- whether no more files are kept than may be
abbrev pub fits : List (Option File) → Bool
fits files = may_keep (member_count files) (member_bytes files)

-- the files with this one at the number of its path, in place of an earlier one; that of a path without a number is the last
abbrev pub placed : List (Option File) → Option ℕ → File → List (Option File)
placed files (Some number) file = slice_set files number (Some file)
placed files None file = files ++ Some file ∷ []

-- the store with this file of a path, which then has a number
abbrev pub with_file : Store → (path : List ℕ) → File → Store
with_file store path file = record store {
  files = placed store.files (number_of store.paths path) file;
  paths = with_path store.paths path;
}

-- a file that was read is kept, unless there would be too many
abbrev pub file_set : Store → (path : List ℕ) → File → Result Store StoreFault
file_set store path file = if fits (with_file store path file).files then Ok (with_file store path file) else Err LibraryTooLarge

-- the store without the file of the path of a number, which keeps its number
abbrev pub file_dropped : Store → ℕ → Store
file_dropped store number = record store { files = slice_set store.files number None }

-- the store without files
abbrev pub files_dropped : Store → Store
files_dropped store = record store { files = map (λ _. None) store.files }
