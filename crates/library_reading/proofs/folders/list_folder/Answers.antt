use Rattle.library_reading.proofs.FolderLaws.{folder_at}
use Rattle.library_reading.proofs.folders.list_folder.Goals as goal

pub returns : goal.returns
returns g c = folder_at _ _ _ _ _ _ _ _ c.as_str.ensures.characters c.ask_folder.ensures
