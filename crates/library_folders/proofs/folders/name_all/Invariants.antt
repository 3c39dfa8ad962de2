-- the folders that were there, and then those so far
use Rattle.std.proofs.Common.{◌≡◌, ◌++◌, map, take}
use Rattle.std.specs.Str.{chars}
use Rattle.library_folders.specs.Folders.{folder_in}
use Rattle.library_folders.proofs.folders.name_all.Given as goal

abbrev pub invariant-loop-library : goal.invariant-loop-library
invariant-loop-library l = l.named.items ≡ l.initial.named.items ++ map (folder_in (chars l.root)) (take l.library-index l.libraries)
