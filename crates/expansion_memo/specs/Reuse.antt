-- What a call comes to, where it ran or a kept outcome of it was taken. This project.
use Rattle.std.specs.Prelude.{◌≡◌, ℕ, List, map}
use Rattle.kept_values.specs.Trees.{Tree}
use Rattle.trace_arena.specs.Nodes.{Node}
use Rattle.asking_core.specs.Worlds.{WorldModel}
use Rattle.asking_core.specs.Machines.{MachineModel}
use Rattle.kept_outcomes.specs.Outcomes.{CallSummary}
use Rattle.kept_outcomes.specs.Moments.{Comes, begun}
use Rattle.expansion_memo.specs.declared.outcome.Outcome.{Outcome}
use Rattle.expansion_memo.specs.Kept.{points_by}
use Rattle.expansion_memo.specs.Entries.{ending_of}

-- The plain run of a call, from a state, with so much fuel and at this depth, leaves this state and has the points of the
-- outcome's node, its end, its cost and its unpaid frames.
pub record ComesTo (M : MachineModel) (W : WorldModel) (rebased : Tree → Tree → ℕ → Tree) {I F : Type 0} (item_of : I → M.Item) (frames_of : F → M.Frames) (fuel depth : ℕ) (call : M.Call) (s t : W.State) (nodes : List (Node I)) (o : Outcome F) : Type 0 where
  pub summary : CallSummary
  pub comes : Comes M W rebased fuel depth (begun M W call s) (record {
    ended = ending_of o.ended;
    state = t;
    points = points_by item_of nodes o.node.0;
    summary = summary;
    wanting = map frames_of o.unpaid.items;
  })
  pub cost_is : summary.units ≡ o.cost
