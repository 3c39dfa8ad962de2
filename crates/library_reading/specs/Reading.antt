-- Reading library folders and the whole configuration (the Che4z HLASM plug-in, `proc_grps.json` and `pgm_conf.json`; what is
-- read when is this project's).
use Rattle.std.specs.Prelude.{ℕ, Bool, List, [], ◌++◌, filter, codes, is_some, chars, if◌then◌else◌}
use Rattle.io_edge.specs.LibraryCall.{Answer, absent, found, refused}
use Rattle.document_store.specs.Members.{files_dropped}
use Rattle.program_config.specs.Files.{groups_of, programs_of}
use Rattle.member_paths.specs.Paths.{member_name}
use Rattle.library_folders.specs.declared.configuration.Configuration.{Configuration}
use Rattle.library_folders.specs.declared.folders.Folder.{Folder}
use Rattle.library_folders.specs.Folders.{folders_of}
use Rattle.library_reading.specs.Asked.{Asking, answered, ◌>>=◌, folder_asked}
use Rattle.library_reading.specs.Log.{Log, said}
use Rattle.library_reading.specs.Order.{in_order}
use Rattle.library_reading.specs.Rows.{groups_path, programs_path, rows_read}
use Rattle.library_reading.specs.Taking.{Taking, Passed, member_read, each_with_room}

-- ---- folders

-- whether the file of a name, in bytes, is a member: its name spells a symbol
abbrev pub is_member : List ℕ → Bool
is_member name = is_some (member_name (chars name))

-- the names of a folder's members, in the order of their bytes
abbrev pub names_told : Answer (List (List ℕ)) → List (List ℕ)
names_told absent = []
names_told (found names) = filter is_member (in_order names)
names_told refused = []

-- the path of the file of a name in a folder
abbrev pub path_in : (folder name : List ℕ) → List ℕ
path_in folder name = folder ++ (codes "/" ++ chars name)

-- what is said of a folder: that it is not there, unless it may be absent, or that it could not be listed
abbrev pub folder_told : Log → Folder → Answer (List (List ℕ)) → Log
folder_told log folder absent = if folder.optional then log else said log folder.path (codes "Absent")
folder_told log folder (found names) = log
folder_told log folder refused = said log folder.path (codes "Unlisted")

-- the members of these names in a folder are read
abbrev pub members_read : (folder : List ℕ) → (names : List (List ℕ)) → Taking → Asking Passed
members_read folder names taking = each_with_room (λ name. member_read (path_in folder name)) names taking

-- a folder is listed, and its members are read
unfoldable pub folder_read : Folder → Taking → Asking Passed
folder_read folder taking = do
  answer ← folder_asked folder.path
  members_read folder.path (names_told answer) (record taking { log = folder_told taking.log folder answer })

-- ---- the configuration

-- what the two files say, and the log behind them
pub record Files : Type 0 where
  pub configuration : Configuration
  pub log : Log

-- the two files are read
unfoldable pub files_read : (root : List ℕ) → Log → Asking Files
files_read root log = do
  groups ← rows_read groups_of (groups_path root) log
  programs ← rows_read programs_of (programs_path root) groups.log
  answered (record { configuration = record { groups = groups.rows; programs = programs.rows }; log = programs.log })

-- the configuration, and what its reading has made of the documents and the log
pub record Reading : Type 0 where
  pub configuration : Configuration
  pub taking : Taking

-- all library folders are read, in the order of first mention
abbrev pub folders_read : (root : List ℕ) → Configuration → Taking → Asking Passed
folders_read root configuration taking = each_with_room folder_read (folders_of root configuration.groups) taking

-- The configuration of a root is read: all files are dropped, the two files are read, and then the library folders. Where
-- there is no room for a member, nothing more is read.
unfoldable pub configuration_read : (root : List ℕ) → Taking → Asking Reading
configuration_read root taking = do
  files ← files_read root taking.log
  passed ← folders_read root files.configuration (record { store = files_dropped taking.store; log = files.log })
  answered (record { configuration = files.configuration; taking = passed.taking })
