use Rattle.library_reading.proofs.ConfigurationLaws.{configuration_read-short}
use Rattle.library_reading.proofs.LeavingLaws.{configuration_leaves, member_leaves, never_differs}
use Rattle.library_reading.proofs.MemberLaws.{member_read-short}
use Rattle.library_reading.proofs.laws.readings_go_by_their_calls.Goals as goal

pub returns-clause-configuration : goal.returns-clause-configuration
returns-clause-configuration c = configuration_leaves

pub returns-clause-member : goal.returns-clause-member
returns-clause-member c = member_leaves

pub returns-clause-configuration_first : goal.returns-clause-configuration_first
returns-clause-configuration_first c = λ root taking. never_differs _ (configuration_read-short root taking)

pub returns-clause-member_first : goal.returns-clause-member_first
returns-clause-member_first c = λ path taking. never_differs _ (member_read-short path taking)
