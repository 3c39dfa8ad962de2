use Rattle.schedule_law.proofs.ScheduleLaws.{known_same, present, same_lists}
use Rattle.schedule_law.proofs.schedules_agree.Goals as goal

pub returns-clause-known : goal.returns-clause-known
returns-clause-known c = known_same

pub returns-clause-present : goal.returns-clause-present
returns-clause-present c = present

pub returns-clause-same : goal.returns-clause-same
returns-clause-same c = same_lists
