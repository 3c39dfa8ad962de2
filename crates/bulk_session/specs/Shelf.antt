-- What the library of the session holds (this project): the two files of the configuration, with one group for all programs, and the
-- folder of the members.
use Rattle.std.specs.Prelude.{ℕ, zero, suc, List, [], ◌∷◌, ◌++◌, codes, map, Option, Some, None}
use Rattle.io_edge.specs.LibraryCall.{LibraryCall, lists, reads, Answer, absent, found}
use Rattle.io_edge.specs.MemoryLibrary.{Folder, File, names_at, bytes_at}
use Rattle.bulk_script.specs.Texts.{member_name, member_text}

-- the folder that the client works in, and that of the members
abbrev pub root : List ℕ
root = codes "/bulk"

abbrev pub folder_path : List ℕ
folder_path = codes "/bulk/lib"

-- the members by their numbers
abbrev pub first_numbers : (count : ℕ) → List ℕ
first_numbers zero = []
first_numbers (suc number) = first_numbers number ++ number ∷ []

abbrev pub member_count : ℕ
member_count = 10

abbrev pub numbers : List ℕ
numbers = first_numbers member_count

-- the path of the file of a member
abbrev pub member_path : (number : ℕ) → List ℕ
member_path number = folder_path ++ (codes "/" ++ member_name number)

abbrev pub member_file : (number : ℕ) → File
member_file number = record { path = member_path number; bytes = member_text number }

-- the two files of the configuration: a group that has the folder, for every program
abbrev pub groups_file : File
groups_file = record { path = codes "/bulk/.hlasmplugin/proc_grps.json"; bytes = codes "{\"pgroups\":[{\"name\":\"BULK\",\"libs\":[\"lib\"]}]}" }

abbrev pub programs_file : File
programs_file = record { path = codes "/bulk/.hlasmplugin/pgm_conf.json"; bytes = codes "{\"pgms\":[{\"program\":\"*\",\"pgroup\":\"BULK\"}]}" }

-- the folders and the files that there are
unfoldable pub folders : List Folder
folders = record { path = folder_path; names = map member_name numbers } ∷ []

unfoldable pub files : List File
files = groups_file ∷ programs_file ∷ map member_file numbers

-- what is there is found
abbrev pub told : {A : Type 0} → Option A → Answer A
told None = absent
told (Some value) = found value

-- a call with the answer that it has here
abbrev pub answered : LibraryCall → LibraryCall
answered (lists path answer) = lists path (told (names_at folders path))
answered (reads path answer) = reads path (told (bytes_at files path))
