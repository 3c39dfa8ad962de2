use Rattle.library_folders.proofs.FolderLaws.{distinct_so_far-included}
use Rattle.library_folders.proofs.folders.distinct.Goals as goal

pub loop-folder-preserved : goal.loop-folder-preserved
loop-folder-preserved c =
    distinct_so_far-included _ _ _ _ _ _ c.loop-folder-test.true c.folder-item.is c.as_str.ensures.characters c.loop-folder.invariant c.in_ok-include.ensures
