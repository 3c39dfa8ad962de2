use Rattle.library_reading.proofs.TextLaws.{two, programs_file_is}
use Rattle.library_reading.proofs.reading.programs_path.Goals as goal

pub returns : goal.returns
returns c = two _ _ _ _ _ c.in_ok-path.ensures c.in_ok-push_str.ensures.ok programs_file_is
