use Rattle.waiting_requests.proofs.WaitLaws.{without_none, without_gone, cancel_silent}
use Rattle.waiting_requests.proofs.laws.cancelling_is_final.Goals as goal

pub returns-clause-gone : goal.returns-clause-gone
returns-clause-gone c = without_gone

pub returns-clause-silent : goal.returns-clause-silent
returns-clause-silent c = cancel_silent

pub returns-clause-same : goal.returns-clause-same
returns-clause-same c = without_none
