-- What is kept of a call that ran, and where it may be taken in place of a run. This project.
use Rattle.std.specs.Prelude.{◌≡◌, ℕ, ◌+◌, ◌≤◌, Bool, true, false, List, [], ◌∷◌, Some}
use Rattle.kept_values.specs.Trees.{Tree, Pair, look_up}
use Rattle.trace_arena.specs.Points.{Point}
use Rattle.asking_core.specs.Worlds.{WorldModel, Holds}
use Rattle.asking_core.specs.Machines.{MachineModel, Nothing}
use Rattle.asking_core.specs.Runs.{Run, Ending, Follows, Within, Paid, ending, cost, bumped, put_by, at_came, met_deep, deepest, deepest_depth}
use Rattle.asking_core.specs.Footprints.{read_by, HearsItself, merged}
use Rattle.kept_outcomes.specs.Traces.{traced}

-- What a run leaves beside its points: what it read of its world, what it put (the newest first), how many calls it
-- counted, the units of fuel that it took, how many levels deeper than its call it came, whether a frame or a call found
-- no room, and whether the world was told of an outermost statement.
pub record CallSummary : Type 0 where
  pub read : List Pair
  pub puts : List Pair
  pub calls : ℕ
  pub units : ℕ
  pub levels : ℕ
  pub no_room : Bool
  pub at_told : Bool

-- before anything happened
abbrev pub blank_summary : CallSummary
blank_summary = record { read = []; puts = []; calls = 0; units = 0; levels = 0; no_room = false; at_told = false }

-- the first list says what each pair of the second one says
abbrev pub AllSaid : List Pair → List Pair → Type 0
AllSaid read [] = Unit {0}
AllSaid read (q ∷ qs) = (look_up read q.key ≡ Some q.value) × AllSaid read qs

-- A run of which this is the outcome, for a call at a depth: the machine's moves are these, fuel was never wanting, and no
-- outermost statement came within it. What it read is each key once, with one answer. This names no world: where the world
-- answers so, the law of outcomes says that the run is the plain one.
pub record OutcomeRun (M : MachineModel) (rebased : Tree → Tree → ℕ → Tree) (call : M.Call) (depth : ℕ) (points : List (Point M.Item)) (ended : Ending) (summary : CallSummary) : Type 0 where
  pub run : Run M.Call M.Item
  pub follows : Follows M (M.start call) Nothing run
  pub hears : HearsItself rebased [] run
  pub within : Within summary.units depth 0 run
  pub paid : Paid run
  pub no_at : at_came run ≡ false
  pub points_are : points ≡ traced [] run
  pub ended_is : ended ≡ ending run
  pub read_is : summary.read ≡ merged [] (read_by rebased [] 0 run)
  pub said : AllSaid summary.read (read_by rebased [] 0 run)
  pub puts_are : summary.puts ≡ put_by run
  pub calls_are : summary.calls ≡ bumped run
  pub units_are : summary.units ≡ cost run
  pub levels_are : summary.levels ≡ deepest 0 run
  pub room_is : summary.no_room ≡ met_deep run
  pub at_is : summary.at_told ≡ false

-- An outcome of a call at a depth: there is such a run. Which one is not said, so this is a fact that a value can keep.
abbrev pub IsOutcome : (M : MachineModel) → (Tree → Tree → ℕ → Tree) → (call : M.Call) → (depth : ℕ) → List (Point M.Item) → Ending → CallSummary → Type 0
IsOutcome M rebased call depth points ended summary = ∥ OutcomeRun M rebased call depth points ended summary ∥₁

-- The depth fits: where a frame or a call found no room, it is the same depth; else there is room for the deepest frame.
abbrev pub HasRoom : Bool → ℕ → ℕ → ℕ → Type 0
HasRoom true kept levels depth = kept ≡ depth
HasRoom false kept levels depth = depth + levels ≤ deepest_depth

-- An outcome, kept at some depth, holds in a state of a world, at so much fuel and a depth: what it read is answered so
-- there, its cost is covered, and the depth fits.
pub record HoldsAt (W : WorldModel) (s : W.State) (fuel depth : ℕ) (kept : ℕ) (summary : CallSummary) : Type 0 where
  pub answers : Holds W s summary.read
  pub covered : summary.units ≤ fuel
  pub room : HasRoom summary.no_room kept summary.levels depth
