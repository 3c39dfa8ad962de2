use Rattle.session_core.proofs.FreshLaws.{change_queues}
use Rattle.session_core.proofs.laws.changes_queue_every_program.Goals as goal

pub returns : goal.returns
returns c = change_queues
