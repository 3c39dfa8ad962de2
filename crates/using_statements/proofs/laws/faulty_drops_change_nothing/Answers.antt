use Rattle.using_statements.proofs.Silence.{drop-kept}
use Rattle.using_statements.proofs.laws.faulty_drops_change_nothing.Goals as goal

pub returns : goal.returns
returns c = drop-kept
