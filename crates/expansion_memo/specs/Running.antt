-- A call that runs over a memo: what holds at each moment of it, and what comes of each part. This project.
use Rattle.std.specs.Prelude.{◌≡◌, ◌≢◌, ℕ, ◌+◌, ◌<◌, ◌≤◌, ◌||◌, Bool, true, false, cond, Option, Some, None, List, [], ◌∷◌, ◌++◌, map}
use Rattle.kept_values.specs.Trees.{Tree}
use Rattle.trace_arena.specs.Nodes.{Node, node_at, outside, IsLive, IsUnshared}
use Rattle.trace_arena.specs.Points.{points}
use Rattle.asking_core.specs.Worlds.{WorldModel}
use Rattle.asking_core.specs.Machines.{MachineModel, Told, Nothing, Returned}
use Rattle.asking_core.specs.Actions.{told_of}
use Rattle.asking_core.specs.Runs.{Ending, ByLeave, ByEnd, ByBudget, deepest_depth}
use Rattle.kept_outcomes.specs.Moments.{Moment, Finish, Comes, Leads, begun, finished, taking_unit}
use Rattle.expansion_memo.specs.declared.walk.Walk.{Walk}
use Rattle.expansion_memo.specs.declared.running.Closing.{Closing}
use Rattle.expansion_memo.specs.declared.running.Ran.{Ran}
use Rattle.expansion_memo.specs.declared.running.Passed.{Passed}
use Rattle.expansion_memo.specs.declared.running.Passed.TheVariants as passed
use Rattle.expansion_memo.specs.Kept.{KeptOutcome, kept_at, AllStand, HoldsThere}
use Rattle.expansion_memo.specs.Entries.{ending_of}
use Rattle.expansion_memo.specs.Walks.{moment_at}
use Rattle.expansion_memo.specs.Within.{NotKept}

-- a node under construction: its maker alone owns it, and no outcome has it
pub record IsUnderway {I : Type 0} (nodes : List (Node I)) (kept : List (Option KeptOutcome)) (x : ℕ) : Type 0 where
  pub unshared : IsUnshared nodes x
  pub apart : NotKept kept x

-- a node is live, with the points and the owners outside that it had
pub record Lasts {I : Type 0} (old new : List (Node I)) (y : ℕ) : Type 0 where
  pub live : IsLive new y
  pub points : points new y ≡ points old y
  pub owners : outside new y ≡ outside old y

-- all live nodes but one last, the others under construction stay so, with their items, and what is kept still is
pub record LeavesOthers {I : Type 0} (x : ℕ) (old new : List (Node I)) (kept after : List (Option KeptOutcome)) : Type 0 where
  pub lasts : (y : ℕ) → y ≢ x → IsLive old y → Lasts old new y
  pub underway : (y : ℕ) → y ≢ x → IsUnderway old kept y → IsUnderway new after y × ((node_at new y).items ≡ (node_at old y).items)
  pub still : (i : ℕ) (o : KeptOutcome) → kept_at kept i ≡ Some o → kept_at after i ≡ Some o

-- What holds of a call under way: it took no more fuel than there is, its frames have room, its node is under
-- construction, and all that is kept stands.
pub record IsSound (M : MachineModel) (rebased : Tree → Tree → ℕ → Tree) (call_of : Tree → M.Call) {L K V I : Type 0} (item_of : I → M.Item) (fuel depth : ℕ) (walk : Walk L K V) (nodes : List (Node I)) (kept : List (Option KeptOutcome)) : Type 0 where
  pub units : walk.summary.units ≤ fuel
  pub room : depth + walk.frames ≤ deepest_depth
  pub underway : IsUnderway nodes kept walk.node.0
  pub stand : AllStand M rebased call_of item_of nodes kept

-- a call went on: what holds of one under way still does, its node is the same, and only that changed
pub record WentOn (M : MachineModel) (rebased : Tree → Tree → ℕ → Tree) (call_of : Tree → M.Call) {L K V I : Type 0} (item_of : I → M.Item) (fuel depth : ℕ) (before after : Walk L K V) (old new : List (Node I)) (kept more : List (Option KeptOutcome)) : Type 0 where
  pub sound : IsSound M rebased call_of item_of fuel depth after new more
  pub node_is : after.node ≡ before.node
  pub units : before.summary.units ≤ after.summary.units
  pub others : LeavesOthers before.node.0 old new kept more

-- What a step comes to, with the nested call that it entered: it leads on, a unit was taken, or the call ended. `b` is the
-- moment now, by what is told there.
abbrev pub Passes : (M : MachineModel) (W : WorldModel) {V F : Type 0} → (Tree → Tree → ℕ → Tree) → (V → Tree) → (F → M.Frames) → ℕ → ℕ → Moment M W → (Told → Moment M W) → Passed V F → Type 0
Passes M W rebased value frames fuel depth a b (passed.On g) = Leads M W rebased fuel depth a (b (told_of value g))
Passes M W rebased value frames fuel depth a b passed.Counted = Leads M W rebased fuel depth a (b Nothing)
Passes M W rebased value frames fuel depth a b (passed.Done close) =
    Comes M W rebased fuel depth a (finished (b Nothing) (ending_of close.ended) (map frames close.unpaid.items))

-- each step that goes on without a unit lowers the number of the place
abbrev pub Progresses : {V F : Type 0} → ℕ → ℕ → ℕ → ℕ → Passed V F → Type 0
Progresses number_before number_after units_before units_after (passed.On g) = number_after < number_before
Progresses number_before number_after units_before units_after passed.Counted = units_before < units_after
Progresses number_before number_after units_before units_after (passed.Done close) = Unit {0}

-- a unit is taken where fuel is left, and else the call ends for want of it
abbrev pub TakesUnit : {L K V A F G : Type 0} → (F → G) → G → ℕ → Walk L K V → Walk L K V → Passed A F → Type 0
TakesUnit frames here fuel before after (passed.On g) = ⊥
TakesUnit frames here fuel before after passed.Counted =
    (before.summary.units < fuel) × (after ≡ record before { summary = taking_unit before.summary })
TakesUnit frames here fuel before after (passed.Done close) =
    (before.summary.units ≡ fuel) × (after ≡ before) × (ending_of close.ended ≡ ByBudget) × (map frames close.unpaid.items ≡ here ∷ [])

-- behind a nested call its caller goes on where that left, and else ends as that did
abbrev pub GoesBack : {A F G : Type 0} → (A → Tree) → (F → G) → G → Ending → List G → Passed A F → Type 0
GoesBack value frames here ByLeave inner (passed.On g) = told_of value g ≡ Returned
GoesBack value frames here ByLeave inner passed.Counted = ⊥
GoesBack value frames here ByLeave inner (passed.Done close) = ⊥
GoesBack value frames here ByEnd inner (passed.On g) = ⊥
GoesBack value frames here ByEnd inner passed.Counted = ⊥
GoesBack value frames here ByEnd inner (passed.Done close) = (ending_of close.ended ≡ ByEnd) × (map frames close.unpaid.items ≡ [])
GoesBack value frames here ByBudget inner (passed.On g) = ⊥
GoesBack value frames here ByBudget inner passed.Counted = ⊥
GoesBack value frames here ByBudget inner (passed.Done close) =
    (ending_of close.ended ≡ ByBudget) × (map frames close.unpaid.items ≡ inner ++ here ∷ [])

-- a unit of fuel was taken, or the call ended
abbrev pub Closes : (M : MachineModel) (W : WorldModel) {F : Type 0} → (Tree → Tree → ℕ → Tree) → (F → M.Frames) → ℕ → ℕ → Moment M W → Moment M W → Option (Closing F) → Type 0
Closes M W rebased frames fuel depth a b None = Leads M W rebased fuel depth a b × (a.summary.units < b.summary.units)
Closes M W rebased frames fuel depth a b (Some close) =
    Comes M W rebased fuel depth a (finished b (ending_of close.ended) (map frames close.unpaid.items))

-- A call ran: it is the plain run, its node was free and is under construction, all that is kept stands, and other nodes
-- are left.
pub record IsRun (M : MachineModel) (W : WorldModel) (rebased : Tree → Tree → ℕ → Tree) (call_of : Tree → M.Call) {L K V I F : Type 0} (place : L → M.Place) (item_of : I → M.Item) (frames_of : F → M.Frames) (fuel depth : ℕ) (call : M.Call) (s t : W.State) (old new : List (Node I)) (kept after : List (Option KeptOutcome)) (ran : Ran L K V F) : Type 0 where
  pub comes : Comes M W rebased fuel depth (begun M W call s)
      (finished (moment_at M W place item_of ran.walk Nothing t new) (ending_of ran.close.ended) (map frames_of ran.close.unpaid.items))
  pub was_free : (node_at old ran.walk.node.0).owners ≡ 0
  pub underway : IsUnderway new after ran.walk.node.0
  pub stand : AllStand M rebased call_of item_of new after
  pub others : LeavesOthers ran.walk.node.0 old new kept after

-- whether fuel was wanting
abbrev pub is_wanting : Ending → Bool
is_wanting ByLeave = false
is_wanting ByEnd = false
is_wanting ByBudget = true

-- an outcome is kept, unless fuel was wanting or an outermost statement came
abbrev pub with_outcome : List (Option KeptOutcome) → KeptOutcome → List (Option KeptOutcome)
with_outcome kept o = cond (is_wanting o.ended || o.summary.at_told) kept (kept ++ Some o ∷ [])

-- A call's node has one owner more, its caller, and all other live nodes last; the node itself keeps its points where it
-- was live.
pub record IsHandedOut {I : Type 0} (old new : List (Node I)) (x : ℕ) : Type 0 where
  pub live : IsLive new x
  pub owned : outside new x ≡ outside old x + 1
  pub same : IsLive old x → points new x ≡ points old x
  pub lasts : (y : ℕ) → y ≢ x → IsLive old y → Lasts old new y

-- What a call comes to may be kept: fuel is not wanting in it, and no outermost statement comes in its plain run.
pub record MayBeKept (M : MachineModel) (W : WorldModel) (rebased : Tree → Tree → ℕ → Tree) (fuel depth : ℕ) (call : M.Call) (s : W.State) (ended : Ending) : Type 0 where
  pub paid : ended ≡ ByBudget → ⊥
  pub no_at : (z : Finish M W) → Comes M W rebased fuel depth (begun M W call s) z → z.summary.at_told ≡ false

-- an outcome of this call is kept somewhere that holds
pub record HoldsSomewhere (W : WorldModel) (s : W.State) (fuel depth : ℕ) (call : Tree) (kept : List (Option KeptOutcome)) : Type 0 where
  pub at : ℕ
  pub there : HoldsThere W s fuel depth call kept at
