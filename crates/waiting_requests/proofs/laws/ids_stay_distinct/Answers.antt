use Rattle.waiting_requests.proofs.WaitLaws.{distinct_added, distinct_cancelled}
use Rattle.waiting_requests.proofs.laws.ids_stay_distinct.Goals as goal

pub returns-clause-at_first : goal.returns-clause-at_first
returns-clause-at_first c = tt

pub returns-clause-added : goal.returns-clause-added
returns-clause-added c = distinct_added

pub returns-clause-cancelled : goal.returns-clause-cancelled
returns-clause-cancelled c = distinct_cancelled
