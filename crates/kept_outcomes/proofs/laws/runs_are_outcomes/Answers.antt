use Rattle.kept_outcomes.proofs.Stands.{runs_are_outcomes}
use Rattle.kept_outcomes.proofs.laws.runs_are_outcomes.Goals as goal

pub returns : goal.returns
returns g c =
    runs_are_outcomes g.M.AskMachine.model g.W.World.model g.M.AskMachine.moving g.M.AskMachine.writable g.M.AskMachine.quiet g.M.AskMachine.rebased
    g.met.M.AskMachine.modest c.requires
