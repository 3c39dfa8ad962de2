use Rattle.ordinary_symbols.proofs.Endings.{round-resolved}
use Rattle.ordinary_symbols.proofs.laws.rounds_end.Goals as goal

pub returns : goal.returns
returns c = round-resolved
