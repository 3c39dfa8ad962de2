-- What joins the definition and the machine (this project).
use Rattle.std.specs.Prelude.{◌≡◌, ◌↔◌, ℕ, ◌+◌, ◌<◌, ◌≤◌, Bool, true, false, List, [], length, Option, Some, None, slice_get}
use Rattle.kept_values.specs.Trees.{Tree}
use Rattle.asking_core.specs.Worlds.{WorldModel}
use Rattle.asking_core.specs.Machines.{MachineModel, Told, Nothing}
use Rattle.asking_core.specs.Runs.{Run, Follows, Plain, ByBudget, after_run, cost, ending, deepest, deepest_depth, unpaid}
use Rattle.kept_outcomes.specs.Traces.{traced}
use Rattle.plain_expansion.specs.Language.{Stack, Language}
use Rattle.plain_expansion.specs.Expansion.{Expansion, expand, expansion}
use Rattle.plain_expansion.specs.Engine.{Place, expander}
use Rattle.plain_expansion.specs.Guard.{Watched, guarded}
use Rattle.plain_expansion.specs.Marks.{is_quiet, is_marked}
use Rattle.plain_expansion.specs.Watch.{KeepsToWatch}

-- A run gives an expansion, from a place and what is told there, and from a state of the world, where this item was told last,
-- if one was, and so many frames stand open.
pub record Gives (M : MachineModel) (W : WorldModel) (last : List M.Item) (p : M.Place) (g : Told) (s : W.State) (frames : ℕ) (run : Run M.Call M.Item)
    (e : Expansion M.Item M.Frames W.State) : Type 0 where
  pub points : traced last run ≡ e.points
  pub world : after_run W s run ≡ e.world
  pub cost_is : cost run ≡ e.cost
  pub ended : ending run ≡ e.ended
  pub nested : deepest frames run ≡ e.nested
  pub unpaid_is : unpaid M p g run ≡ e.unpaid

-- some plain run gives it
pub record HasRun (M : MachineModel) (W : WorldModel) (last : List M.Item) (p : M.Place) (g : Told) (s : W.State) (fuel depth frames : ℕ)
    (e : Expansion M.Item M.Frames W.State) : Type 0 where
  pub run : Run M.Call M.Item
  pub plain : Plain M W s p g fuel depth frames run
  pub gives : Gives M W last p g s frames run e

-- each plain run of a call gives its plain expansion
abbrev pub RunsAreExpansions : Language → WorldModel → Type 0
RunsAreExpansions L W = (call : L.words.Call) (s : W.State) (fuel depth : ℕ) (run : Run L.words.Call L.Item) →
    Plain (expander L) W s ((expander L).start call) Nothing fuel depth 0 run →
    Gives (expander L) W [] ((expander L).start call) Nothing s 0 run (expansion L W call s fuel depth)

-- each call has a plain run
abbrev pub EachCallRuns : Language → WorldModel → Type 0
EachCallRuns L W = (call : L.words.Call) (s : W.State) (fuel depth : ℕ) →
    HasRun (expander L) W [] ((expander L).start call) Nothing s fuel depth 0 (expansion L W call s fuel depth)

-- the first number of the definition is free, if it is greater than the fuel
abbrev pub GasIsFree : Language → WorldModel → Type 0
GasIsFree L W = (gas other : ℕ) (x : Stack L.words) (s : W.State) (fuel depth : ℕ) → fuel < gas → fuel < other →
    expand gas L W x s fuel depth ≡ expand other L W x s fuel depth

-- the machine that expands, watching itself
abbrev pub careful_expander : Language → ℕ → (moving writable : Tree → Bool) → MachineModel
careful_expander L full moving writable = guarded (expander L) full moving writable is_quiet

-- each plain run of a call by the machine that watches itself gives the call's plain expansion
abbrev pub CarefulRunsAreExpansions : Language → WorldModel → Type 0
CarefulRunsAreExpansions L W = (full : ℕ) (moving writable : Tree → Bool) (call : L.words.Call) (s : W.State) (fuel depth : ℕ)
    (run : Run L.words.Call L.Item) →
    Plain (careful_expander L full moving writable) W s ((careful_expander L full moving writable).start call) Nothing fuel depth 0 run →
    Gives (careful_expander L full moving writable) W [] ((careful_expander L full moving writable).start call) Nothing s 0 run
    (expansion L W call s fuel depth)

-- A run of the machine is one of the machine that watches itself exactly where it keeps to the watch: so that one gives up only
-- where more than so much is done without a unit of fuel, a moving key is asked behind the entry, or a key is put that may not be.
abbrev pub WatchedRunsKeepToIt : Language → (full : ℕ) → (moving writable : Tree → Bool) → Type 0
WatchedRunsKeepToIt L full moving writable = (call : L.words.Call) (run : Run L.words.Call L.Item) →
    Follows (careful_expander L full moving writable) ((careful_expander L full moving writable).start call) Nothing run
    ↔ (Follows (expander L) ((expander L).start call) Nothing run × KeepsToWatch full moving writable true full run)

-- how much it may still do, whether it has a point to tell, and whether its call is still at its entry
abbrev pub left_of : (L : Language) → Watched (Place L.words L.Item) → ℕ
left_of L p = p.left

abbrev pub marked_of : (L : Language) → Watched (Place L.words L.Item) → Bool
marked_of L p = is_marked p.place

abbrev pub quiet_of : (L : Language) → Watched (Place L.words L.Item) → Bool
quiet_of L p = is_quiet p.place

-- An expansion with so much fuel, of a call at a depth: a unit of fuel is a point, and there are no more of them than fuel; all
-- of it was taken where it was wanting, and only then are frames unpaid; and no frame stands deeper than the limit.
pub record IsCounted {I F A : Type 0} (fuel depth : ℕ) (e : Expansion I F A) : Type 0 where
  pub each : length e.points ≡ e.cost
  pub enough : e.cost ≤ fuel
  pub starved : e.ended ≡ ByBudget → e.cost ≡ fuel
  pub owing : (e.ended ≡ ByBudget → ⊥) → e.unpaid ≡ []
  pub shallow : depth + e.nested ≤ deepest_depth

abbrev pub EachUnitIsAPoint : Language → WorldModel → Type 0
EachUnitIsAPoint L W = (call : L.words.Call) (s : W.State) (fuel depth : ℕ) → depth ≤ deepest_depth →
    IsCounted fuel depth (expansion L W call s fuel depth)

-- the place of the first one that holds, if one does
abbrev pub IsFirst : {S : Type 0} → (S → Bool) → List S → Option ℕ → Type 0
IsFirst {S} holds list None = (n : ℕ) (s : S) → slice_get list n ≡ Some s → holds s ≡ false
IsFirst {S} holds list (Some m) = ((s : S) × (slice_get list m ≡ Some s) × (holds s ≡ true)) ×
    ((n : ℕ) (s : S) → n < m → slice_get list n ≡ Some s → holds s ≡ false)
