-- the folders of the entries so far, each once
use Rattle.std.proofs.Common.{◌≡◌}
use Rattle.library_folders.proofs.FolderLaws.{distinct_so_far}
use Rattle.library_folders.proofs.folders.distinct.Given as goal

abbrev pub invariant-loop-folder : goal.invariant-loop-folder
invariant-loop-folder l = l.list.items ≡ distinct_so_far l.named l.folder-index
