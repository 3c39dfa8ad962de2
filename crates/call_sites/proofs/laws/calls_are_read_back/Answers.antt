use Rattle.call_sites.proofs.CallLaws.{call_of-call_tree}
use Rattle.call_sites.proofs.laws.calls_are_read_back.Goals as goal

pub returns : goal.returns
returns c = call_of-call_tree
