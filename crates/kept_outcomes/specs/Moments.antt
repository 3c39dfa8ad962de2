-- A call under way: where its machine stands and what came so far, what a run from there comes to, and what each move
-- makes of it. This project.
use Rattle.std.specs.Prelude.{◌≡◌, ℕ, ◌+◌, ◌-◌, ◌||◌, true, false, cond, List, [], ◌∷◌, ◌++◌, map, max}
use Rattle.kept_values.specs.Trees.{Tree, look_up}
use Rattle.trace_arena.specs.Points.{Point, own, within}
use Rattle.asking_core.specs.Worlds.{WorldModel}
use Rattle.asking_core.specs.Machines.{MachineModel, Told, Nothing, Answered, Returned, TooDeep}
use Rattle.asking_core.specs.Runs.{Run, Ending, Plain, ending, cost, bumped, put_by, at_came, met_deep, deepest, after_run, unpaid}
use Rattle.asking_core.specs.Footprints.{read_by, carried, merged, unless_there}
use Rattle.kept_outcomes.specs.Traces.{traced}
use Rattle.kept_outcomes.specs.Outcomes.{CallSummary, blank_summary}

-- where a call has come: the place and what is told there, the state of the world, the points so far and the item that
-- came last, what the run left so far, and how many frames stand open in it
pub record Moment (M : MachineModel) (W : WorldModel) : Type 0 where
  pub place : M.Place
  pub given : Told
  pub state : W.State
  pub points : List (Point M.Item)
  pub last : List M.Item
  pub summary : CallSummary
  pub frames : ℕ

-- how a call ended, the state that it left, its points, what it left beside them, and the frames of the statements at
-- which fuel was wanting
pub record Finish (M : MachineModel) (W : WorldModel) : Type 0 where
  pub ended : Ending
  pub state : W.State
  pub points : List (Point M.Item)
  pub summary : CallSummary
  pub wanting : List M.Frames

-- a call begins
abbrev pub begun : (M : MachineModel) (W : WorldModel) → M.Call → W.State → Moment M W
begun M W call s = record { place = M.start call; given = Nothing; state = s; points = []; last = []; summary = blank_summary; frames = 0 }

-- what the world has to do with a run is joined with what came before
pub record Adds (rebased : Tree → Tree → ℕ → Tree) {C I : Type 0} (before after : CallSummary) (run : Run C I) : Type 0 where
  pub read_is : after.read ≡ merged before.read (read_by rebased before.puts before.calls run)
  pub puts_are : after.puts ≡ put_by run ++ before.puts
  pub calls_are : after.calls ≡ before.calls + bumped run

-- A run that is the plain one from a moment on, of this fuel in all and at this depth, and comes to this finish. Once the
-- world was told of an outermost statement, what was read, put and counted is kept no longer.
pub record PlainRunTo (M : MachineModel) (W : WorldModel) (rebased : Tree → Tree → ℕ → Tree) (fuel depth : ℕ) (a : Moment M W) (z : Finish M W) : Type 0 where
  pub run : Run M.Call M.Item
  pub plain : Plain M W a.state a.place a.given (fuel - a.summary.units) depth a.frames run
  pub ended_is : z.ended ≡ ending run
  pub state_is : z.state ≡ after_run W a.state run
  pub points_are : z.points ≡ a.points ++ traced a.last run
  pub wanting_are : z.wanting ≡ unpaid M a.place a.given run
  pub units_are : z.summary.units ≡ a.summary.units + cost run
  pub levels_are : z.summary.levels ≡ max a.summary.levels (deepest a.frames run)
  pub room_is : z.summary.no_room ≡ (a.summary.no_room || met_deep run)
  pub at_is : z.summary.at_told ≡ (a.summary.at_told || at_came run)
  pub adds : z.summary.at_told ≡ false → Adds rebased a.summary z.summary run

-- From a moment the plain run comes to this finish. There is no second plain run (a law of `asking_core`), so nothing is
-- lost where it is not said which one this is.
abbrev pub Comes : (M : MachineModel) (W : WorldModel) → (Tree → Tree → ℕ → Tree) → (fuel depth : ℕ) → Moment M W → Finish M W → Type 0
Comes M W rebased fuel depth a z = ∥ PlainRunTo M W rebased fuel depth a z ∥₁

-- what a run from the second moment comes to, one from the first comes to
abbrev pub Leads : (M : MachineModel) (W : WorldModel) → (Tree → Tree → ℕ → Tree) → ℕ → ℕ → Moment M W → Moment M W → Type 0
Leads M W rebased fuel depth a b = (z : Finish M W) → Comes M W rebased fuel depth b z → Comes M W rebased fuel depth a z

-- an answer is read, unless its key was put, or an outermost statement came
abbrev pub reading : CallSummary → Tree → Tree → CallSummary
reading summary key value = record summary {
  read = cond summary.at_told summary.read (merged summary.read (unless_there (look_up summary.puts key) (record { key = key; value = value }) []));
}

abbrev pub putting : CallSummary → Tree → Tree → CallSummary
putting summary key value = record summary { puts = cond summary.at_told summary.puts (record { key = key; value = value } ∷ summary.puts) }

abbrev pub counting_call : CallSummary → CallSummary
counting_call summary = record summary { calls = cond summary.at_told summary.calls (summary.calls + 1) }

abbrev pub taking_unit : CallSummary → CallSummary
taking_unit summary = record summary { units = summary.units + 1 }

-- a frame more stands open, or a call is entered, where so many stand open
abbrev pub deepening : CallSummary → ℕ → CallSummary
deepening summary frames = record summary { levels = max summary.levels (frames + 1) }

abbrev pub finding_no_room : CallSummary → CallSummary
finding_no_room summary = record summary { no_room = true }

abbrev pub telling_at : CallSummary → CallSummary
telling_at summary = record summary { at_told = true }

-- what a nested call read, and what it put, and both with the calls that it counted
abbrev pub reading_child : (Tree → Tree → ℕ → Tree) → CallSummary → CallSummary → CallSummary
reading_child rebased summary child = record summary { read = merged summary.read (carried rebased summary.puts summary.calls child.read) }

abbrev pub putting_child : CallSummary → CallSummary → CallSummary
putting_child summary child = record summary { puts = child.puts ++ summary.puts }

abbrev pub joining_kept : (Tree → Tree → ℕ → Tree) → CallSummary → CallSummary → CallSummary
joining_kept rebased summary child = record summary {
  read = cond (summary.at_told || child.at_told) summary.read (merged summary.read (carried rebased summary.puts summary.calls child.read));
  puts = cond (summary.at_told || child.at_told) summary.puts (child.puts ++ summary.puts);
  calls = cond (summary.at_told || child.at_told) summary.calls (summary.calls + child.calls);
}

-- what a nested call left is joined, where so many frames stand open in its caller
abbrev pub joined : (Tree → Tree → ℕ → Tree) → ℕ → CallSummary → CallSummary → CallSummary
joined rebased frames summary child = record {
  read = cond (summary.at_told || child.at_told) summary.read (merged summary.read (carried rebased summary.puts summary.calls child.read));
  puts = cond (summary.at_told || child.at_told) summary.puts (child.puts ++ summary.puts);
  calls = cond (summary.at_told || child.at_told) summary.calls (summary.calls + child.calls);
  units = summary.units + child.units;
  levels = max summary.levels (frames + 1 + child.levels);
  no_room = summary.no_room || child.no_room;
  at_told = summary.at_told || child.at_told;
}

-- the machine made its move
abbrev pub stepped : {M : MachineModel} {W : WorldModel} → Moment M W → Moment M W
stepped {M} {W} a = record a { place = M.after a.place a.given; given = Nothing }

-- and what each move makes of the rest
abbrev pub asked : {M : MachineModel} {W : WorldModel} → Moment M W → Tree → Moment M W
asked {M} {W} a key = record a { given = Answered (W.answer a.state key); summary = reading a.summary key (W.answer a.state key) }

abbrev pub put : {M : MachineModel} {W : WorldModel} → Moment M W → Tree → Tree → Moment M W
put {M} {W} a key value = record a { state = W.after_put a.state key value; summary = putting a.summary key value }

abbrev pub counted : {M : MachineModel} {W : WorldModel} → Moment M W → Moment M W
counted a = record a { summary = taking_unit a.summary }

abbrev pub call_counted : {M : MachineModel} {W : WorldModel} → Moment M W → Moment M W
call_counted {M} {W} a = record a { state = W.after_bump a.state 1; summary = counting_call a.summary }

abbrev pub item_emitted : {M : MachineModel} {W : WorldModel} → Moment M W → M.Item → Moment M W
item_emitted a item = record a { points = a.points ++ own item ∷ []; last = item ∷ [] }

abbrev pub at_said : {M : MachineModel} {W : WorldModel} → Moment M W → ℕ → Moment M W
at_said {M} {W} a n = record a { state = W.after_at a.state n; summary = telling_at a.summary }

abbrev pub deepened : {M : MachineModel} {W : WorldModel} → Moment M W → Moment M W
deepened a = record a { summary = deepening a.summary a.frames; frames = a.frames + 1 }

abbrev pub risen : {M : MachineModel} {W : WorldModel} → Moment M W → Moment M W
risen a = record a { frames = a.frames - 1 }

abbrev pub turned_away : {M : MachineModel} {W : WorldModel} → Moment M W → Moment M W
turned_away a = record a { given = TooDeep; summary = finding_no_room a.summary }

-- a nested call ended so, and its caller goes on behind it
abbrev pub come_back : {M : MachineModel} {W : WorldModel} → (Tree → Tree → ℕ → Tree) → Moment M W → Finish M W → Moment M W
come_back {M} {W} rebased a child = record a {
  given = Returned;
  state = W.after_leave child.state;
  points = a.points ++ map (within a.last) child.points;
  summary = joined rebased a.frames a.summary child.summary;
}

-- a call that ends here and so
abbrev pub finished : {M : MachineModel} {W : WorldModel} → Moment M W → Ending → List M.Frames → Finish M W
finished a ended wanting = record { ended = ended; state = a.state; points = a.points; summary = a.summary; wanting = wanting }
