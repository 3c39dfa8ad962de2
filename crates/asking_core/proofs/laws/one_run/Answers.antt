use Rattle.asking_core.proofs.OnePlainRun.{same_run}
use Rattle.asking_core.proofs.laws.one_run.Goals as goal

pub returns : goal.returns
returns g c = λ s p told f d o t u one other.
    same_run g.M.AskMachine.model g.W.World.model t u s p told f d o one.follows other.follows one.agrees other.agrees one.within other.within
