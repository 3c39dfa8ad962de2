-- What a memo keeps, and when a kept outcome stands. This project.
use Rattle.std.specs.Prelude.{◌≡◌, ℕ, ◌<◌, Option, Some, None, List, [], ◌∷◌, length, map, nat_lt, if◌then◌else◌, slice_index, slice_index_or}
use Rattle.std.specs.Coded.{Π_prop, le_prop}
use Rattle.kept_values.specs.Trees.{Tree, Pair, mixed}
use Rattle.trace_arena.specs.Nodes.{Node, node_at, IsLive}
use Rattle.trace_arena.specs.Points.{Point, points}
use Rattle.asking_core.specs.Worlds.{WorldModel}
use Rattle.asking_core.specs.Machines.{MachineModel}
use Rattle.asking_core.specs.Runs.{Ending}
use Rattle.kept_outcomes.specs.Outcomes.{CallSummary, IsOutcome, HoldsAt}

-- an outcome that is kept: its call and the depth at which it ran, the node of its points, how it ended, and what else it
-- left
pub record KeptOutcome : Type 0 where
  pub call : Tree
  pub depth : ℕ
  pub node : ℕ
  pub ended : Ending
  pub summary : CallSummary

-- a memo: a place for each outcome that was ever kept, and nothing there once it was given up
abbrev pub kept_at : List (Option KeptOutcome) → ℕ → Option KeptOutcome
kept_at kept i = slice_index_or kept i None

-- a point whose items are read so
abbrev pub point_by : {I J : Type 0} → (I → J) → Point I → Point J
point_by item p = record { calls = map item p.calls; item = item p.item }

-- the points of a node, their items read so
abbrev pub points_by : {I J : Type 0} → (I → J) → List (Node I) → ℕ → List (Point J)
points_by item nodes x = map (point_by item) (points nodes x)

-- A kept outcome stands: its node is live and has the points of an outcome of its call. This names no world.
pub record Stands (M : MachineModel) (rebased : Tree → Tree → ℕ → Tree) (call_of : Tree → M.Call) {I : Type 0} (item_of : I → M.Item) (nodes : List (Node I)) (o : KeptOutcome) : Type 0 where
  pub live : IsLive nodes o.node
  pub outcome : IsOutcome M rebased (call_of o.call) o.depth (points_by item_of nodes o.node) o.ended o.summary

-- all that a memo keeps stands
abbrev pub AllStand : (M : MachineModel) → (Tree → Tree → ℕ → Tree) → (Tree → M.Call) → {I : Type 0} → (I → M.Item) → List (Node I) → List (Option KeptOutcome) → Type 0
AllStand M rebased call_of item_of nodes kept = (i : ℕ) (o : KeptOutcome) → kept_at kept i ≡ Some o → Stands M rebased call_of item_of nodes o

-- both are facts that a value can keep
pub Stands-prop : (M : MachineModel) (rebased : Tree → Tree → ℕ → Tree) (call_of : Tree → M.Call) {I : Type 0} (item_of : I → M.Item) (nodes : List (Node I)) (o : KeptOutcome) →
    IsProp (Stands M rebased call_of item_of nodes o)
Stands-prop M rebased call_of item_of nodes o one other = λ i. record { live = le_prop one.live other.live i; outcome = squash₁ one.outcome other.outcome i }

pub AllStand-prop : (M : MachineModel) (rebased : Tree → Tree → ℕ → Tree) (call_of : Tree → M.Call) {I : Type 0} (item_of : I → M.Item) (nodes : List (Node I)) (kept : List (Option KeptOutcome)) →
    IsProp (AllStand M rebased call_of item_of nodes kept)
AllStand-prop M rebased call_of item_of nodes kept =
    Π_prop (λ i. Π_prop (λ o. Π_prop (λ at. Stands-prop M rebased call_of item_of nodes o)))

-- a kept outcome is one of this call, and holds in a state, at so much fuel and a depth
pub record HoldsOf (W : WorldModel) (s : W.State) (fuel depth : ℕ) (call : Tree) (o : KeptOutcome) : Type 0 where
  pub same : o.call ≡ call
  pub holds : HoldsAt W s fuel depth o.depth o.summary

-- one that is kept at this place holds
pub record HoldsThere (W : WorldModel) (s : W.State) (fuel depth : ℕ) (call : Tree) (kept : List (Option KeptOutcome)) (i : ℕ) : Type 0 where
  pub outcome : KeptOutcome
  pub at : kept_at kept i ≡ Some outcome
  pub holds : HoldsOf W s fuel depth call outcome

-- none that is kept of this call holds
abbrev pub NoneHolds : (W : WorldModel) → W.State → ℕ → ℕ → Tree → List (Option KeptOutcome) → Type 0
NoneHolds W s fuel depth call kept = (i : ℕ) → HoldsThere W s fuel depth call kept i → ⊥

-- the key that was read first, if one was
abbrev pub first_key : List Pair → Option Tree
first_key [] = None
first_key (p ∷ ps) = Some p.key

-- the number under which an outcome is found: that of its call, and of the first answer that it read
abbrev pub found_number : ℕ → (Tree → ℕ) → List Pair → ℕ
found_number start value [] = start
found_number start value (p ∷ ps) = mixed start (value p.value)

-- a number of calls comes with a key that is read first
pub record IsListed (numbers : List ℕ) (keys : List (Option Tree)) (number : ℕ) (key : Option Tree) : Type 0 where
  pub place : ℕ
  pub inside : place < length numbers
  pub number_is : slice_index numbers place ≡ number
  pub key_is : slice_index_or keys place None ≡ key

-- a kept outcome is given up once its node is no longer live
abbrev pub while_live : {I : Type 0} → List (Node I) → Option KeptOutcome → Option KeptOutcome
while_live nodes None = None
while_live nodes (Some o) = if nat_lt 0 (node_at nodes o.node).owners then Some o else None
