use Rattle.std.proofs.Common.{◌+◌, ◌-◌}
use Rattle.kept_outcomes.proofs.Nested.{leads_enter, comes_end_within, comes_spent_within}
use Rattle.kept_outcomes.proofs.Stands.{nothing_left}
use Rattle.kept_outcomes.proofs.laws.nested_calls_join.Goals as goal

pub returns : goal.returns
returns g c = λ fuel depth a call child is room comes.
    let M = g.M.AskMachine.model in
    let W = g.W.World.model in
    let rebased = g.M.AskMachine.rebased in
    record {
      left = leads_enter M W rebased fuel depth a call child is room comes;
      ended = comes_end_within M W rebased fuel depth a call child is room comes;
      wanting = λ spent. comes_spent_within M W rebased fuel depth a call child is room comes spent
          (nothing_left M W rebased (fuel - a.summary.units) (depth + a.frames + 1) call (W.after_enter a.state) child comes spent);
    }
