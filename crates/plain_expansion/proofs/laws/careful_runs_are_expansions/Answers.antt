use Rattle.plain_expansion.proofs.Theorem.{careful_runs_are_expansions}
use Rattle.plain_expansion.proofs.laws.careful_runs_are_expansions.Goals as goal

pub returns : goal.returns
returns g c = careful_runs_are_expansions g.L.MacroLanguage.language g.W.World.model
