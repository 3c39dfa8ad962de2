use Rattle.rpc_framing.proofs.Splitting.{Breaks-bad, Breaks-least}
use Rattle.rpc_framing.proofs.laws.a_fault_is_the_first.Goals as goal

pub returns-clause-bad : goal.returns-clause-bad
returns-clause-bad c = Breaks-bad

pub returns-clause-least : goal.returns-clause-least
returns-clause-least c = Breaks-least
