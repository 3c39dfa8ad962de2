use Rattle.std.proofs.Common.{◌∙◌, ap}
use Rattle.std.specs.Str.{chars}
use Rattle.library_reading.proofs.AskedLaws.{is_failure, asks_stopped}
use Rattle.library_reading.proofs.MemberLaws.{member_read-short}
use Rattle.library_reading.proofs.FolderLaws.{member_at}
use Rattle.library_reading.proofs.folders.read_named.Goals as goal

pub returns-in_err-path : goal.returns-in_err-path
returns-in_err-path g c = asks_stopped _ _ _ _ _ (is_failure _ _ c.from_residual.ensures.1) (member_read-short _ _)

pub returns : goal.returns
returns g c = member_at _ _ _ _ _ _ _ _ _ (ap chars c.as_str.ensures.value ∙ c.in_ok-path.ensures) c.read_member.ensures
