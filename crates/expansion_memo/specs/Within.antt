-- A kept outcome that is taken in place of running a nested call. This project.
use Rattle.std.specs.Prelude.{◌≡◌, ◌≢◌, ℕ, ◌+◌, ◌-◌, Option, Some, List, ◌++◌, map}
use Rattle.kept_values.specs.Trees.{Tree}
use Rattle.trace_arena.specs.Nodes.{Node, node_at, outside, IsLive, IsUnshared}
use Rattle.trace_arena.specs.Points.{points, within}
use Rattle.trace_arena.specs.Changes.{last_item}
use Rattle.asking_core.specs.Worlds.{WorldModel}
use Rattle.asking_core.specs.Machines.{MachineModel}
use Rattle.asking_core.specs.Runs.{Ending}
use Rattle.kept_outcomes.specs.Moments.{Moment, Finish, Comes, begun, come_back}
use Rattle.expansion_memo.specs.Kept.{KeptOutcome, kept_at}

-- no outcome that is kept has this node
abbrev pub NotKept : List (Option KeptOutcome) → ℕ → Type 0
NotKept kept x = (i : ℕ) (o : KeptOutcome) → kept_at kept i ≡ Some o → o.node ≢ x

-- A nested call that is entered at a moment was joined: its plain run, with the fuel that is left and one level deeper
-- than the frames that stand open, ends so, and the caller is where it goes on behind it.
pub record JoinsIn (M : MachineModel) (W : WorldModel) (rebased : Tree → Tree → ℕ → Tree) (fuel depth : ℕ) (call : M.Call) (before after : Moment M W) (ended : Ending) (wanting : List M.Frames) : Type 0 where
  pub child : Finish M W
  pub comes : Comes M W rebased (fuel - before.summary.units) (depth + before.frames + 1) (begun M W call (W.after_enter before.state)) child
  pub after_is : after ≡ come_back rebased before child
  pub ended_is : child.ended ≡ ended
  pub wanting_is : child.wanting ≡ wanting

-- A nested call's node stands in its caller's node, behind what was there, and owes its life to that alone; all other nodes
-- that were live still are, with their points and their owners outside.
pub record Absorbs {I : Type 0} (old new : List (Node I)) (x child : ℕ) : Type 0 where
  pub unshared : IsUnshared new x
  pub behind : points new x ≡ points old x ++ map (within (last_item old x)) (points old child)
  pub last : last_item new x ≡ last_item old x
  pub lasts : (y : ℕ) → y ≢ x → IsLive old y → IsLive new y × (points new y ≡ points old y)
  pub owners : (y : ℕ) → y ≢ x → y ≢ child → IsLive old y → outside new y ≡ outside old y
  pub underway : (y : ℕ) → y ≢ x → y ≢ child → IsUnshared old y → IsUnshared new y × ((node_at new y).items ≡ (node_at old y).items)
