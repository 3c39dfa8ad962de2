use Rattle.library_reading.proofs.AskedLaws.{is_failure}
use Rattle.library_reading.proofs.MemberLaws.{member_reached, member_cut}
use Rattle.library_reading.proofs.members.read_member.Goals as goal

pub returns-in_err-answer : goal.returns-in_err-answer
returns-in_err-answer g c = member_cut _ _ _ _ _ _ _ _ _ _ c.in_err-answer.ensures (is_failure _ _ c.from_residual.ensures.1)

pub returns : goal.returns
returns g c = member_reached _ _ _ _ _ _ _ _ _ _ c.in_ok-answer.ensures c.take.ensures
