-- The library folders of a configuration, and what a program has of its group. This project.
-- Paths are lists of characters and are compared as texts.
use Rattle.std.specs.Prelude.{ℕ, Bool, ◌&&◌, ◌==◌, not, List, [], ◌∷◌, Option, Some, None, map, filter, flat_map, slice_get, encode_utf8_all, if◌then◌else◌}
use Rattle.std.specs.List.{list_any}
use Rattle.std.specs.Option.{option_map_or, option_and_then}
use Rattle.std.specs.Str.{bytes_eq}
use Rattle.program_config.specs.declared.groups.Library.{Library}
use Rattle.program_config.specs.declared.groups.Group.{Group}
use Rattle.program_config.specs.Choice as choice
use Rattle.member_paths.specs.Paths.{slash, folder_of, folder_path}
use Rattle.library_folders.specs.declared.folders.Folder.{Folder}
use Rattle.library_folders.specs.declared.configuration.Configuration.{Configuration}

-- ---- library folders

-- the folder of an entry of a group
abbrev pub folder_in : (root : List ℕ) → Library → Folder
folder_in root library = record { path = folder_path root library.path; optional = library.optional }

-- the folders of a group, in order
abbrev pub folders_in : (root : List ℕ) → Group → List Folder
folders_in root group = map (folder_in root) group.libraries

-- the folders of all groups, as often as they are named
abbrev pub named_folders : (root : List ℕ) → List Group → List Folder
named_folders root groups = flat_map (folders_in root) groups

-- whether a folder is the one of a path
abbrev pub is_at : List ℕ → Folder → Bool
is_at path folder = bytes_eq path folder.path

-- each path once, in the order in which they come first
abbrev pub each_once : List (List ℕ) → List (List ℕ)
each_once [] = []
each_once (path ∷ paths) = path ∷ filter (λ other. not (bytes_eq path other)) (each_once paths)

-- whether one of these entries says that the folder of a path is optional
abbrev pub may_be_absent : List Folder → List ℕ → Bool
may_be_absent named path = list_any (λ folder. is_at path folder && folder.optional) named

-- the folder of a path, as these entries say
abbrev pub folder_at : List Folder → List ℕ → Folder
folder_at named path = record { path = path; optional = may_be_absent named path }

-- the folders of these entries, each once
abbrev pub distinct : List Folder → List Folder
distinct named = map (folder_at named) (each_once (map (λ folder. folder.path) named))

-- the library folders: each folder of each group once, in order of first mention, optional where any of its entries says so
abbrev pub folders_of : (root : List ℕ) → List Group → List Folder
folders_of root groups = distinct (named_folders root groups)

-- whether a folder is among the library folders
abbrev pub is_library_folder : List Folder → List ℕ → Bool
is_library_folder folders path = list_any (is_at path) folders

-- whether a file lies in a library folder
abbrev pub is_member : List Folder → List ℕ → Bool
is_member folders path = is_library_folder folders (folder_of path)

-- ---- the group of a program

-- what stands in a text behind another with which it begins
abbrev pub behind : (front text : List ℕ) → Option (List ℕ)
behind [] text = Some text
behind (c ∷ front) [] = None
behind (c ∷ front) (d ∷ text) = if c == d then behind front text else None

-- the path of a file from the root, where it lies below the root
abbrev pub path_below : (root path : List ℕ) → Option (List ℕ)
path_below root path = option_and_then (behind (slash ∷ [])) (behind root path)

-- the group of the program of a path that lies below the root
abbrev pub group_below : Configuration → List ℕ → Option Group
group_below configuration below =
    option_and_then (slice_get configuration.groups) (choice.group_of configuration.programs configuration.groups (encode_utf8_all below))

-- the group of a program: none without a root, for a path that does not lie below it, and where the entry names no group
abbrev pub group_of : Option (List ℕ) → Configuration → (path : List ℕ) → Option Group
group_of root configuration path = option_and_then (λ r. option_and_then (group_below configuration) (path_below r path)) root

-- the value of &SYSPARM of a program: that of its group, empty without one
abbrev pub parm_for : Option (List ℕ) → Configuration → (path : List ℕ) → List ℕ
parm_for root configuration path = option_map_or (λ group. group.sysparm) (group_of root configuration path) []

-- the paths of the folders of a group, in the order in which they are searched
abbrev pub paths_of : (root : List ℕ) → Group → List (List ℕ)
paths_of root group = map (λ library. folder_path root library.path) group.libraries

-- the folders in which the members of a program are searched: those of its group, none without one
abbrev pub folders_for : Option (List ℕ) → Configuration → (path : List ℕ) → List (List ℕ)
folders_for None configuration path = []
folders_for (Some root) configuration path = option_map_or (paths_of root) (group_of (Some root) configuration path) []
