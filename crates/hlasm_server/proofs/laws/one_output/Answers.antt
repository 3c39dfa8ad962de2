use Rattle.hlasm_server.proofs.OutputLaws.{one_out}
use Rattle.hlasm_server.proofs.laws.one_output.Goals as goal

pub returns : goal.returns
returns c = one_out
