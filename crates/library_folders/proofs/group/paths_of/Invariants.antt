-- the paths of the folders so far
use Rattle.std.proofs.Common.{◌≡◌, map, take}
use Rattle.std.specs.Str.{chars}
use Rattle.member_paths.specs.Paths.{folder_path}
use Rattle.program_config.specs.declared.groups.Library.{Library}
use Rattle.library_folders.proofs.group.paths_of.Given as goal

abbrev pub invariant-loop-library : goal.invariant-loop-library
invariant-loop-library l = l.list.items ≡ map (λ (library : Library). folder_path (chars l.root) library.path) (take l.library-index l.libraries)
