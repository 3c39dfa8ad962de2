use Rattle.kept_outcomes.proofs.Stands.{outcomes_stand}
use Rattle.kept_outcomes.proofs.laws.outcomes_stand.Goals as goal

pub returns : goal.returns
returns g c =
    outcomes_stand g.M.AskMachine.model g.W.World.model g.M.AskMachine.moving g.M.AskMachine.writable g.M.AskMachine.quiet g.M.AskMachine.rebased
    g.met.M.AskMachine.modest c.requires
