use Rattle.library_reading.proofs.TextLaws.{two, groups_file_is}
use Rattle.library_reading.proofs.reading.groups_path.Goals as goal

pub returns : goal.returns
returns c = two _ _ _ _ _ c.in_ok-path.ensures c.in_ok-push_str.ensures.ok groups_file_is
