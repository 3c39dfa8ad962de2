use Rattle.std.proofs.Common.{map, string_bytes, ap, ◌∙◌}
use Rattle.library_reading.proofs.AskedLaws.{is_failure}
use Rattle.library_reading.proofs.FolderLaws.{folder_reached, folder_lost, folder_cut}
use Rattle.library_reading.proofs.folders.read_folder.Goals as goal

pub returns-in_err-answer : goal.returns-in_err-answer
returns-in_err-answer g c = folder_cut _ _ _ _ _ _ _ _ _ _ c.in_err-answer.ensures (is_failure _ _ c.from_residual.ensures.1)

pub returns-in_err-say_folder : goal.returns-in_err-say_folder
returns-in_err-say_folder g c = folder_lost _ _ _ _ _ _ _ _ _ _ c.in_ok-answer.ensures (is_failure _ _ c.from_residual-in_err-say_folder.ensures.1)

pub returns : goal.returns
returns g c =
    folder_reached _ _ _ _ _ _ _ _ _ _ _ _ _ _ c.in_ok-answer.ensures c.in_ok-say_folder.ensures
    (ap (map string_bytes) c.as_slice.ensures.value ∙ c.names_told-names.ensures) c.read_members.ensures
