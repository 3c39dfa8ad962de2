use Rattle.plain_expansion.proofs.Theorem.{gas_is_free}
use Rattle.plain_expansion.proofs.laws.gas_is_free.Goals as goal

pub returns : goal.returns
returns g c = gas_is_free g.L.MacroLanguage.language g.W.World.model
