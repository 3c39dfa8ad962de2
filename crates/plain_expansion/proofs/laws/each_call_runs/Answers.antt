use Rattle.plain_expansion.proofs.Theorem.{each_call_runs}
use Rattle.plain_expansion.proofs.laws.each_call_runs.Goals as goal

pub returns : goal.returns
returns g c = each_call_runs g.L.MacroLanguage.language g.W.World.model
