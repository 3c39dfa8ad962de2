-- How many records the run of a call makes over what is kept: an item is a record where it is emitted, and none where its
-- node is taken. This project.
use Rattle.std.specs.Prelude.{◌≡◌, ℕ, ◌+◌, ◌-◌, ◌≤◌, Bool, Option, Some, None, List, cond}
use Rattle.kept_values.specs.Trees.{Tree}
use Rattle.asking_core.specs.Worlds.{WorldModel}
use Rattle.asking_core.specs.Machines.{MachineModel, Told, Nothing}
use Rattle.asking_core.specs.Actions.{told_of}
use Rattle.asking_core.specs.Runs.{Run, Leaves, Ends, Spent, Asks, Puts, Counts, Bumps, Emits, Moves, Deepens, Rises, Refused, Calls, Barred, Plain, cost, after_run}
use Rattle.kept_outcomes.specs.Moments.{Moment, stepped}
use Rattle.expansion_memo.specs.declared.walk.Next.{Next}
use Rattle.expansion_memo.specs.declared.walk.Next.TheVariants as next
use Rattle.expansion_memo.specs.declared.running.Closing.{Closing}
use Rattle.expansion_memo.specs.declared.running.Passed.{Passed}
use Rattle.expansion_memo.specs.declared.running.Passed.TheVariants as passed
use Rattle.expansion_memo.specs.Kept.{KeptOutcome, kept_at}
use Rattle.expansion_memo.specs.Running.{HoldsSomewhere}

-- A nested call, met where these of its trees have a kept outcome that holds, makes so many records: none, or at most as
-- many as it costs, and then no outcome of it holds.
pub data CallMakes {C : Type 0} (call_of : Tree → C) (Holds : Tree → Type 0) (c : C) (paid made : ℕ) : Type 0 where
  makes_none : made ≡ 0 → CallMakes call_of Holds c paid made
  makes_some : (tree : Tree) → call_of tree ≡ c → (Holds tree → ⊥) → made ≤ paid → CallMakes call_of Holds c paid made

-- of so many records some are a nested call's, and the others come behind it
pub record Shares {C : Type 0} (call_of : Tree → C) (Holds : Tree → Type 0) (c : C) (paid : ℕ) (Behind : ℕ → Type 0) (made : ℕ) : Type 0 where
  pub inner : ℕ
  pub within : CallMakes call_of Holds c paid inner
  pub behind : Behind (made - inner)

-- A run, from a state, with so much fuel, where so many frames stand open, makes at most so many records over these kept
-- outcomes: one for each unit of fuel that it takes outside nested calls, and what its outermost nested calls make.
module _ (W : WorldModel) {C I : Type 0} (call_of : Tree → C) (kept : List (Option KeptOutcome)) (depth : ℕ) where
  abbrev pub MakesAtMost : W.State → (fuel frames : ℕ) → Run C I → (made : ℕ) → Type 0
  MakesAtMost s fuel frames Leaves made = made ≡ 0
  MakesAtMost s fuel frames Ends made = made ≡ 0
  MakesAtMost s fuel frames Spent made = made ≡ 0
  MakesAtMost s fuel frames (Asks key value t) made = MakesAtMost s fuel frames t made
  MakesAtMost s fuel frames (Puts key value t) made = MakesAtMost (W.after_put s key value) fuel frames t made
  MakesAtMost s fuel frames (Counts t) made = MakesAtMost s (fuel - 1) frames t (made - 1)
  MakesAtMost s fuel frames (Bumps t) made = MakesAtMost (W.after_bump s 1) fuel frames t made
  MakesAtMost s fuel frames (Emits item t) made = MakesAtMost s fuel frames t made
  MakesAtMost s fuel frames (Moves n t) made = MakesAtMost (W.after_at s n) fuel frames t made
  MakesAtMost s fuel frames (Deepens t) made = MakesAtMost s fuel (frames + 1) t made
  MakesAtMost s fuel frames (Rises t) made = MakesAtMost s fuel (frames - 1) t made
  MakesAtMost s fuel frames (Refused t) made = MakesAtMost s fuel frames t made
  MakesAtMost s fuel frames (Calls c child t) made =
      Shares call_of (λ tree. HoldsSomewhere W (W.after_enter s) fuel (depth + frames + 1) tree kept) c (cost child)
      (λ left. MakesAtMost (W.after_leave (after_run W (W.after_enter s) child)) (fuel - cost child) frames t left) made
  MakesAtMost s fuel frames (Barred c t) made = MakesAtMost s fuel frames t made

-- a plain run from a moment on that makes at most so many records
pub record RunMaking (M : MachineModel) (W : WorldModel) (call_of : Tree → M.Call) (kept : List (Option KeptOutcome)) (fuel depth : ℕ) (a : Moment M W) (made : ℕ) : Type 0 where
  pub run : Run M.Call M.Item
  pub plain : Plain M W a.state a.place a.given (fuel - a.summary.units) depth a.frames run
  pub makes : MakesAtMost W call_of kept depth a.state (fuel - a.summary.units) a.frames run made

-- the plain run from a moment on makes at most so many records
abbrev pub Makes : (M : MachineModel) (W : WorldModel) → (Tree → M.Call) → List (Option KeptOutcome) → (fuel depth : ℕ) → Moment M W → (made : ℕ) → Type 0
Makes M W call_of kept fuel depth a made = ∥ RunMaking M W call_of kept fuel depth a made ∥₁

-- all that is kept in the first is kept in the second
abbrev pub AreKeptIn : List (Option KeptOutcome) → List (Option KeptOutcome) → Type 0
AreKeptIn kept more = (i : ℕ) (o : KeptOutcome) → kept_at kept i ≡ Some o → kept_at more i ≡ Some o

-- the records that were made, with one to come where a unit is taken and its item is not emitted yet
abbrev pub owed : {P : Type 0} → (P → Bool) → (made : ℕ) → P → ℕ
owed marked made p = made + cond (marked p) 1 0

-- What is made at most from the second moment on, where so many were owed, is made at most from the first on, where so
-- many were; whatever number is reached in the end.
abbrev pub LeadsMaking : (M : MachineModel) (W : WorldModel) → (Tree → M.Call) → List (Option KeptOutcome) → (fuel depth : ℕ) → Moment M W → ℕ → Moment M W → ℕ → Type 0
LeadsMaking M W call_of kept fuel depth a before b after = (total : ℕ) → Makes M W call_of kept fuel depth b (total - after) → Makes M W call_of kept fuel depth a (total - before)

-- what one step makes: none behind a count or where the call ends, and else what its moment makes of the one before
abbrev pub StepMakes : (M : MachineModel) (W : WorldModel) {V C : Type 0} → (V → Tree) → (Tree → M.Call) → ℕ → Moment M W → (Told → Moment M W) → (made now before after : ℕ) → Next V C → Type 0
StepMakes M W value call_of depth a b made now before after (next.Tell g) =
    (kept : List (Option KeptOutcome)) (fuel : ℕ) → LeadsMaking M W call_of kept fuel depth a before (b (told_of value g)) after
StepMakes M W value call_of depth a b made now before after next.Counts = now ≡ made
StepMakes M W value call_of depth a b made now before after (next.Enters c) = (now ≡ made) × (after ≤ before)
StepMakes M W value call_of depth a b made now before after next.Leaves = now ≡ made
StepMakes M W value call_of depth a b made now before after next.Ends = now ≡ made

-- what a step makes with the nested call that it entered
abbrev pub PassMakes : (M : MachineModel) (W : WorldModel) {V F : Type 0} → (V → Tree) → (Tree → M.Call) → List (Option KeptOutcome) → (fuel depth : ℕ) → Moment M W → (Told → Moment M W) → (now before after : ℕ) → Passed V F → Type 0
PassMakes M W value call_of kept fuel depth a b now before after (passed.On g) = LeadsMaking M W call_of kept fuel depth a before (b (told_of value g)) after
PassMakes M W value call_of kept fuel depth a b now before after passed.Counted = LeadsMaking M W call_of kept fuel depth a before (b Nothing) after
PassMakes M W value call_of kept fuel depth a b now before after (passed.Done close) = Makes M W call_of kept fuel depth a (now - before)

-- and up to a unit of fuel, or the end
abbrev pub UnitMakes : (M : MachineModel) (W : WorldModel) {F : Type 0} → (Tree → M.Call) → List (Option KeptOutcome) → (fuel depth : ℕ) → Moment M W → Moment M W → (now before after : ℕ) → Option (Closing F) → Type 0
UnitMakes M W call_of kept fuel depth a b now before after None = LeadsMaking M W call_of kept fuel depth a before b after
UnitMakes M W call_of kept fuel depth a b now before after (Some close) = Makes M W call_of kept fuel depth a (now - before)
