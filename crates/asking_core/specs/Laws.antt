-- What holds of every machine and every world that fits it (this project).
use Rattle.std.specs.Prelude.{◌≡◌, ℕ, ◌+◌, ◌≤◌, false, List, []}
use Rattle.std.specs.Option.{option_or}
use Rattle.kept_values.specs.Trees.{Tree, Pair, look_up}
use Rattle.asking_core.specs.Worlds.{WorldModel, Holds, moved}
use Rattle.asking_core.specs.Machines.{MachineModel, Told, Nothing}
use Rattle.asking_core.specs.Runs.{Run, Follows, Agrees, Within, Plain, Paid, after_run, at_came, bumped, cost, deepest, deepest_depth, met_deep, put_by}
use Rattle.asking_core.specs.Footprints.{read_by, merged}

-- The law of footprints: a run that agrees with one state of a world agrees with every state that answers alike what the
-- run read.
abbrev pub FootprintLaw : (M : MachineModel) → WorldModel → (Tree → Tree → ℕ → Tree) → Type 0
FootprintLaw M W rebased = (call : M.Call) (run : Run M.Call M.Item) (s u : W.State) →
    Follows M (M.start call) Nothing run → at_came run ≡ false → Agrees W s run → Holds W u (read_by rebased [] 0 run) → Agrees W u run

-- what a run read is what the state at its start answers
abbrev pub ReadIsAnswered : (M : MachineModel) → WorldModel → (Tree → Tree → ℕ → Tree) → Type 0
ReadIsAnswered M W rebased = (call : M.Call) (run : Run M.Call M.Item) (s : W.State) →
    Follows M (M.start call) Nothing run → at_came run ≡ false → Agrees W s run → Holds W s (read_by rebased [] 0 run)

-- what a run leaves of the world is what it put and how many calls it counted
abbrev pub RunLeaves : (M : MachineModel) → WorldModel → Type 0
RunLeaves M W = (call : M.Call) (run : Run M.Call M.Item) (s : W.State) →
    Follows M (M.start call) Nothing run → at_came run ≡ false → after_run W s run ≡ moved W s (put_by run) (bumped run)

-- there is no second plain run
abbrev pub OneRun : (M : MachineModel) → WorldModel → Type 0
OneRun M W = (s : W.State) (p : M.Place) (g : Told) (fuel depth frames : ℕ) (one other : Run M.Call M.Item) →
    Plain M W s p g fuel depth frames one → Plain M W s p g fuel depth frames other → one ≡ other

-- a run for which fuel was never wanting goes as far with any fuel that covers its cost
abbrev pub FuelShifts : (C I : Type 0) → Type 0
FuelShifts C I = (run : Run C I) (fuel more depth frames : ℕ) →
    Within fuel depth frames run → Paid run → cost run ≤ more → Within more depth frames run

-- one that never met the limit goes as far at any depth that leaves room for its deepest frame
abbrev pub DepthShifts : (C I : Type 0) → Type 0
DepthShifts C I = (run : Run C I) (fuel more depth other frames : ℕ) →
    Within fuel depth frames run → Paid run → cost run ≤ more → met_deep run ≡ false →
    other + deepest frames run ≤ deepest_depth → Within more other frames run

-- a merged footprint says of each key what the first said, and where it said nothing, what the second did
abbrev pub MergedSays : Type 0
MergedSays = (pairs others : List Pair) (key : Tree) → look_up (merged pairs others) key ≡ option_or (look_up pairs key) (look_up others key)
