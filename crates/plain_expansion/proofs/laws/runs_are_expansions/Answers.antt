use Rattle.plain_expansion.proofs.Theorem.{runs_are_expansions}
use Rattle.plain_expansion.proofs.laws.runs_are_expansions.Goals as goal

pub returns : goal.returns
returns g c = runs_are_expansions g.L.MacroLanguage.language g.W.World.model
