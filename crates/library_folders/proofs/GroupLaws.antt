-- The folders of a program are library folders.
use Rattle.std.proofs.Common.{◌≡◌, ◌∙◌, ℕ, Bool, true, false, ◌||◌, List, [], ◌∷◌, ◌++◌, map, refl, sym, ap, subst, Option, Some, None, zero, suc, true≢false, slice_get}
use Rattle.std.specs.Prelude.{filter, flat_map}
use Rattle.std.specs.List.{list_any}
use Rattle.std.specs.Option.{option_and_then, option_map_or}
use Rattle.std.specs.Str.{bytes_eq}
use Rattle.std.proofs.lemmas.List.{map-append}
use Rattle.std.proofs.lemmas.List.Folds.{list_any-append}
use Rattle.std.proofs.lemmas.Option.{none-some}
use Rattle.program_config.specs.declared.groups.Library.{Library}
use Rattle.program_config.specs.declared.groups.Group.{Group}
use Rattle.program_config.specs.Choice as choice
use Rattle.member_paths.specs.Paths.{folder_path}
use Rattle.library_folders.specs.Folders.{is_library_folder, folder_in, folders_in, named_folders, folders_of, paths_of, group_of, group_below, path_below, folders_for}
use Rattle.library_folders.specs.declared.folders.Folder.{Folder}
use Rattle.library_folders.specs.declared.configuration.Configuration.{Configuration}
use Rattle.library_folders.proofs.FolderLaws.{paths_in, any-distinct}

-- the paths of the folders of a group
paths_in-group : (root : List ℕ) (libraries : List Library) → paths_in (map (folder_in root) libraries) ≡ map (λ (library : Library). folder_path root library.path) libraries
paths_in-group root [] = refl
paths_in-group root (library ∷ rest) = ap (λ paths. folder_path root library.path ∷ paths) (paths_in-group root rest)

or_true : (b : Bool) → (b || true) ≡ true
or_true true = refl
or_true false = refl

-- a folder of a group is named
any-named : (root path : List ℕ) (groups : List Group) (k : ℕ) (group : Group) → slice_get groups k ≡ Some group → list_any (bytes_eq path) (paths_of root group) ≡ true →
    list_any (bytes_eq path) (paths_in (named_folders root groups)) ≡ true
any-named root path [] k group at found = absurd (none-some group at)
any-named root path (g ∷ groups) k group at found =
    ap (list_any (bytes_eq path)) (map-append (λ (f : Folder). f.path) (folders_in root g) (named_folders root groups))
    ∙ list_any-append (bytes_eq path) (paths_in (folders_in root g)) (paths_in (named_folders root groups))
    ∙ by k at (λ n rest. any-named root path groups n group rest found)
  where
    by : (n : ℕ) → slice_get (g ∷ groups) n ≡ Some group → ((m : ℕ) → slice_get groups m ≡ Some group → list_any (bytes_eq path) (paths_in (named_folders root groups)) ≡ true) →
        (list_any (bytes_eq path) (paths_in (folders_in root g)) || list_any (bytes_eq path) (paths_in (named_folders root groups))) ≡ true
    by zero at later =
        let is : g ≡ group = cc in
        ap (λ b. b || list_any (bytes_eq path) (paths_in (named_folders root groups)))
        (ap (λ (h : Group). list_any (bytes_eq path) (paths_in (folders_in root h))) is ∙ ap (list_any (bytes_eq path)) (paths_in-group root group.libraries) ∙ found)
    by (suc n) at later = ap (λ b. list_any (bytes_eq path) (paths_in (folders_in root g)) || b) (later n at) ∙ or_true (list_any (bytes_eq path) (paths_in (folders_in root g)))

-- each folder in which the members of a program are searched is a library folder
pub folders_for-library : (root : List ℕ) (configuration : Configuration) (path folder : List ℕ) →
    list_any (bytes_eq folder) (folders_for (Some root) configuration path) ≡ true → is_library_folder (folders_of root configuration.groups) folder ≡ true
folders_for-library root configuration path folder found = by (group_of (Some root) configuration path) refl found
  where
    from_place : (o : Option ℕ) (group : Group) → option_and_then (slice_get configuration.groups) o ≡ Some group → list_any (bytes_eq folder) (paths_of root group) ≡ true →
        is_library_folder (folders_of root configuration.groups) folder ≡ true
    from_place None group is found = absurd (none-some group is)
    from_place (Some k) group is found = any-distinct (named_folders root configuration.groups) folder ∙ any-named root folder configuration.groups k group is found

    from_path : (o : Option (List ℕ)) (group : Group) → option_and_then (group_below configuration) o ≡ Some group → list_any (bytes_eq folder) (paths_of root group) ≡ true →
        is_library_folder (folders_of root configuration.groups) folder ≡ true
    from_path None group is found = absurd (none-some group is)
    from_path (Some below) group is found = from_place _ group is found

    by : (o : Option Group) → group_of (Some root) configuration path ≡ o → list_any (bytes_eq folder) (option_map_or (paths_of root) o []) ≡ true →
        is_library_folder (folders_of root configuration.groups) folder ≡ true
    by None is found = absurd (true≢false (sym found))
    by (Some group) is found = from_path (path_below root path) group is found
