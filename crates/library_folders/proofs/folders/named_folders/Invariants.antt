-- the folders of the groups so far
use Rattle.std.proofs.Common.{◌≡◌, take}
use Rattle.std.specs.Str.{chars}
use Rattle.library_folders.specs.Folders.{named_folders}
use Rattle.library_folders.proofs.folders.named_folders.Given as goal

abbrev pub invariant-loop-group : goal.invariant-loop-group
invariant-loop-group l = l.named.items ≡ named_folders (chars l.root) (take l.group-index l.groups)
