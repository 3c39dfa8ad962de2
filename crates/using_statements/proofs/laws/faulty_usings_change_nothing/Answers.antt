use Rattle.using_statements.proofs.Silence.{using-kept}
use Rattle.using_statements.proofs.laws.faulty_usings_change_nothing.Goals as goal

pub returns : goal.returns
returns c = using-kept
