-- The plain run of a machine over a world: nothing is kept, nothing is left out. A run is what happens, in order; it is
-- the plain run where the machine's moves are these, the world answers so, and fuel and depth go so far. This project.
use Rattle.std.specs.Prelude.{◌≡◌, ℕ, ◌+◌, ◌-◌, ◌<◌, ◌≤◌, ◌||◌, Bool, true, false, List, [], ◌∷◌, ◌++◌, max}
use Rattle.kept_values.specs.Trees.{Tree, Pair}
use Rattle.asking_core.specs.Worlds.{WorldModel}
use Rattle.asking_core.specs.Machines.{Told, Nothing, Answered, Returned, TooDeep, Ask, Put, Count, Bump, Emit, Deepen, Rise, Enter, At, Leave, End, MachineModel}

-- What happens, in order: a question with its answer, a put, and so on. `Refused` is a frame, and `Barred` a call, for
-- which there was no room; `Spent` is where a unit of fuel was wanted and none was left; `Calls` has the run of the
-- nested call, and then what follows it.
pub data Run (C I : Type 0) : Type 0 where
  Leaves : Run C I
  Ends : Run C I
  Spent : Run C I
  Asks : (key value : Tree) (rest : Run C I) → Run C I
  Puts : (key value : Tree) (rest : Run C I) → Run C I
  Counts : (rest : Run C I) → Run C I
  Bumps : (rest : Run C I) → Run C I
  Emits : (item : I) (rest : Run C I) → Run C I
  Moves : (statement : ℕ) (rest : Run C I) → Run C I
  Deepens : (rest : Run C I) → Run C I
  Rises : (rest : Run C I) → Run C I
  Refused : (rest : Run C I) → Run C I
  Calls : (call : C) (child rest : Run C I) → Run C I
  Barred : (call : C) (rest : Run C I) → Run C I

-- how a run ends: it leaves its call, it ends all, or fuel is spent
pub data Ending : Type 0 where
  ByLeave : Ending
  ByEnd : Ending
  ByBudget : Ending

abbrev pub ending : {C I : Type 0} → Run C I → Ending
ending Leaves = ByLeave
ending Ends = ByEnd
ending Spent = ByBudget
ending (Asks key value t) = ending t
ending (Puts key value t) = ending t
ending (Counts t) = ending t
ending (Bumps t) = ending t
ending (Emits item t) = ending t
ending (Moves n t) = ending t
ending (Deepens t) = ending t
ending (Rises t) = ending t
ending (Refused t) = ending t
ending (Calls c child t) = ending t
ending (Barred c t) = ending t

-- what follows a nested call: where it left, the caller goes on; where it ended all, or fuel was spent, so does the caller
abbrev pub Back : {C I : Type 0} → Ending → Run C I → Type 0 → Type 0
Back ByLeave t goes_on = goes_on
Back ByEnd t goes_on = t ≡ Ends
Back ByBudget t goes_on = t ≡ Spent

-- the moves are the machine's, from a place and what is told there
abbrev pub Follows : (M : MachineModel) → M.Place → Told → Run M.Call M.Item → Type 0
Follows M p g Leaves = M.move_at p g ≡ Leave
Follows M p g Ends = M.move_at p g ≡ End
Follows M p g Spent = M.move_at p g ≡ Count
Follows M p g (Asks key value t) = (M.move_at p g ≡ Ask key) × Follows M (M.after p g) (Answered value) t
Follows M p g (Puts key value t) = (M.move_at p g ≡ Put key value) × Follows M (M.after p g) Nothing t
Follows M p g (Counts t) = (M.move_at p g ≡ Count) × Follows M (M.after p g) Nothing t
Follows M p g (Bumps t) = (M.move_at p g ≡ Bump) × Follows M (M.after p g) Nothing t
Follows M p g (Emits item t) = (M.move_at p g ≡ Emit item) × Follows M (M.after p g) Nothing t
Follows M p g (Moves n t) = (M.move_at p g ≡ At n) × Follows M (M.after p g) Nothing t
Follows M p g (Deepens t) = (M.move_at p g ≡ Deepen) × Follows M (M.after p g) Nothing t
Follows M p g (Rises t) = (M.move_at p g ≡ Rise) × Follows M (M.after p g) Nothing t
Follows M p g (Refused t) = (M.move_at p g ≡ Deepen) × Follows M (M.after p g) TooDeep t
Follows M p g (Calls c child t) =
    (M.move_at p g ≡ Enter c) × Follows M (M.start c) Nothing child × Back (ending child) t (Follows M (M.after p g) Returned t)
Follows M p g (Barred c t) = (M.move_at p g ≡ Enter c) × Follows M (M.after p g) TooDeep t

-- the state that a run leaves; leaving is told to the world however the nested call ended
abbrev pub after_run : {C I : Type 0} (W : WorldModel) → W.State → Run C I → W.State
after_run W s Leaves = s
after_run W s Ends = s
after_run W s Spent = s
after_run W s (Asks key value t) = after_run W s t
after_run W s (Puts key value t) = after_run W (W.after_put s key value) t
after_run W s (Counts t) = after_run W s t
after_run W s (Bumps t) = after_run W (W.after_bump s 1) t
after_run W s (Emits item t) = after_run W s t
after_run W s (Moves n t) = after_run W (W.after_at s n) t
after_run W s (Deepens t) = after_run W s t
after_run W s (Rises t) = after_run W s t
after_run W s (Refused t) = after_run W s t
after_run W s (Calls c child t) = after_run W (W.after_leave (after_run W (W.after_enter s) child)) t
after_run W s (Barred c t) = after_run W s t

-- each answer is the world's
abbrev pub Agrees : {C I : Type 0} (W : WorldModel) → W.State → Run C I → Type 0
Agrees W s Leaves = Unit {0}
Agrees W s Ends = Unit {0}
Agrees W s Spent = Unit {0}
Agrees W s (Asks key value t) = (W.answer s key ≡ value) × Agrees W s t
Agrees W s (Puts key value t) = Agrees W (W.after_put s key value) t
Agrees W s (Counts t) = Agrees W s t
Agrees W s (Bumps t) = Agrees W (W.after_bump s 1) t
Agrees W s (Emits item t) = Agrees W s t
Agrees W s (Moves n t) = Agrees W (W.after_at s n) t
Agrees W s (Deepens t) = Agrees W s t
Agrees W s (Rises t) = Agrees W s t
Agrees W s (Refused t) = Agrees W s t
Agrees W s (Calls c child t) =
    Agrees W (W.after_enter s) child × Agrees W (W.after_leave (after_run W (W.after_enter s) child)) t
Agrees W s (Barred c t) = Agrees W s t

-- the units of fuel that a run takes
abbrev pub cost : {C I : Type 0} → Run C I → ℕ
cost Leaves = 0
cost Ends = 0
cost Spent = 0
cost (Asks key value t) = cost t
cost (Puts key value t) = cost t
cost (Counts t) = cost t + 1
cost (Bumps t) = cost t
cost (Emits item t) = cost t
cost (Moves n t) = cost t
cost (Deepens t) = cost t
cost (Rises t) = cost t
cost (Refused t) = cost t
cost (Calls c child t) = cost child + cost t
cost (Barred c t) = cost t

-- frames and calls stand in one another so deep at most
abbrev pub deepest_depth : ℕ
deepest_depth = 128

-- Fuel and depth go so far: a unit is there where one is counted, and none where the run is spent; a frame or a call
-- has room exactly below the limit. `depth` is the call's own, `open` counts the frames that stand open in it.
abbrev pub Within : {C I : Type 0} → ℕ → ℕ → ℕ → Run C I → Type 0
Within fuel depth frames Leaves = Unit {0}
Within fuel depth frames Ends = Unit {0}
Within fuel depth frames Spent = fuel ≡ 0
Within fuel depth frames (Asks key value t) = Within fuel depth frames t
Within fuel depth frames (Puts key value t) = Within fuel depth frames t
Within fuel depth frames (Counts t) = (0 < fuel) × Within (fuel - 1) depth frames t
Within fuel depth frames (Bumps t) = Within fuel depth frames t
Within fuel depth frames (Emits item t) = Within fuel depth frames t
Within fuel depth frames (Moves n t) = Within fuel depth frames t
Within fuel depth frames (Deepens t) = (depth + frames < deepest_depth) × Within fuel depth (frames + 1) t
Within fuel depth frames (Rises t) = Within fuel depth (frames - 1) t
Within fuel depth frames (Refused t) = (deepest_depth ≤ depth + frames) × Within fuel depth frames t
Within fuel depth frames (Calls c child t) =
    (depth + frames < deepest_depth) × Within fuel (depth + frames + 1) 0 child × Within (fuel - cost child) depth frames t
Within fuel depth frames (Barred c t) = (deepest_depth ≤ depth + frames) × Within fuel depth frames t

-- The plain run, from a state of the world, a place and what is told there, with so much fuel, at that depth, with so
-- many frames open.
pub record Plain (M : MachineModel) (W : WorldModel) (s : W.State) (p : M.Place) (g : Told) (fuel depth frames : ℕ) (run : Run M.Call M.Item) : Type 0 where
  pub follows : Follows M p g run
  pub agrees : Agrees W s run
  pub within : Within fuel depth frames run

-- the items, in order, those of nested calls where they were made
abbrev pub emitted : {C I : Type 0} → Run C I → List I
emitted Leaves = []
emitted Ends = []
emitted Spent = []
emitted (Asks key value t) = emitted t
emitted (Puts key value t) = emitted t
emitted (Counts t) = emitted t
emitted (Bumps t) = emitted t
emitted (Emits item t) = item ∷ emitted t
emitted (Moves n t) = emitted t
emitted (Deepens t) = emitted t
emitted (Rises t) = emitted t
emitted (Refused t) = emitted t
emitted (Calls c child t) = emitted child ++ emitted t
emitted (Barred c t) = emitted t

-- how many calls were counted, within nested calls too
abbrev pub bumped : {C I : Type 0} → Run C I → ℕ
bumped Leaves = 0
bumped Ends = 0
bumped Spent = 0
bumped (Asks key value t) = bumped t
bumped (Puts key value t) = bumped t
bumped (Counts t) = bumped t
bumped (Bumps t) = bumped t + 1
bumped (Emits item t) = bumped t
bumped (Moves n t) = bumped t
bumped (Deepens t) = bumped t
bumped (Rises t) = bumped t
bumped (Refused t) = bumped t
bumped (Calls c child t) = bumped child + bumped t
bumped (Barred c t) = bumped t

-- what was put, within nested calls too, the newest first
abbrev pub put_by : {C I : Type 0} → Run C I → List Pair
put_by Leaves = []
put_by Ends = []
put_by Spent = []
put_by (Asks key value t) = put_by t
put_by (Puts key value t) = put_by t ++ record { key = key; value = value } ∷ []
put_by (Counts t) = put_by t
put_by (Bumps t) = put_by t
put_by (Emits item t) = put_by t
put_by (Moves n t) = put_by t
put_by (Deepens t) = put_by t
put_by (Rises t) = put_by t
put_by (Refused t) = put_by t
put_by (Calls c child t) = put_by t ++ put_by child
put_by (Barred c t) = put_by t

-- whether the world was told of an outermost statement
abbrev pub at_came : {C I : Type 0} → Run C I → Bool
at_came Leaves = false
at_came Ends = false
at_came Spent = false
at_came (Asks key value t) = at_came t
at_came (Puts key value t) = at_came t
at_came (Counts t) = at_came t
at_came (Bumps t) = at_came t
at_came (Emits item t) = at_came t
at_came (Moves n t) = true
at_came (Deepens t) = at_came t
at_came (Rises t) = at_came t
at_came (Refused t) = at_came t
at_came (Calls c child t) = at_came child || at_came t
at_came (Barred c t) = at_came t

-- whether a frame or a call found no room
abbrev pub met_deep : {C I : Type 0} → Run C I → Bool
met_deep Leaves = false
met_deep Ends = false
met_deep Spent = false
met_deep (Asks key value t) = met_deep t
met_deep (Puts key value t) = met_deep t
met_deep (Counts t) = met_deep t
met_deep (Bumps t) = met_deep t
met_deep (Emits item t) = met_deep t
met_deep (Moves n t) = met_deep t
met_deep (Deepens t) = met_deep t
met_deep (Rises t) = met_deep t
met_deep (Refused t) = true
met_deep (Calls c child t) = met_deep child || met_deep t
met_deep (Barred c t) = true

-- how much deeper than its call the run comes, where so many frames stand open
abbrev pub deepest : {C I : Type 0} → ℕ → Run C I → ℕ
deepest frames Leaves = 0
deepest frames Ends = 0
deepest frames Spent = 0
deepest frames (Asks key value t) = deepest frames t
deepest frames (Puts key value t) = deepest frames t
deepest frames (Counts t) = deepest frames t
deepest frames (Bumps t) = deepest frames t
deepest frames (Emits item t) = deepest frames t
deepest frames (Moves n t) = deepest frames t
deepest frames (Deepens t) = max (frames + 1) (deepest (frames + 1) t)
deepest frames (Rises t) = deepest (frames - 1) t
deepest frames (Refused t) = deepest frames t
deepest frames (Calls c child t) = max (frames + 1 + deepest 0 child) (deepest frames t)
deepest frames (Barred c t) = deepest frames t

-- fuel was never wanting
abbrev pub Paid : {C I : Type 0} → Run C I → Type 0
Paid Leaves = Unit {0}
Paid Ends = Unit {0}
Paid Spent = ⊥
Paid (Asks key value t) = Paid t
Paid (Puts key value t) = Paid t
Paid (Counts t) = Paid t
Paid (Bumps t) = Paid t
Paid (Emits item t) = Paid t
Paid (Moves n t) = Paid t
Paid (Deepens t) = Paid t
Paid (Rises t) = Paid t
Paid (Refused t) = Paid t
Paid (Calls c child t) = Paid child × Paid t
Paid (Barred c t) = Paid t

-- the frames of the statements at which fuel was wanting: of the nested call first, then of its caller; none where it
-- was not
abbrev pub unpaid_back : {F : Type 0} → Ending → List F → F → List F → List F
unpaid_back ByLeave inner frames rest = rest
unpaid_back ByEnd inner frames rest = []
unpaid_back ByBudget inner frames rest = inner ++ frames ∷ []

abbrev pub unpaid : (M : MachineModel) → M.Place → Told → Run M.Call M.Item → List M.Frames
unpaid M p g Leaves = []
unpaid M p g Ends = []
unpaid M p g Spent = M.frames_at (M.after p g) ∷ []
unpaid M p g (Asks key value t) = unpaid M (M.after p g) (Answered value) t
unpaid M p g (Puts key value t) = unpaid M (M.after p g) Nothing t
unpaid M p g (Counts t) = unpaid M (M.after p g) Nothing t
unpaid M p g (Bumps t) = unpaid M (M.after p g) Nothing t
unpaid M p g (Emits item t) = unpaid M (M.after p g) Nothing t
unpaid M p g (Moves n t) = unpaid M (M.after p g) Nothing t
unpaid M p g (Deepens t) = unpaid M (M.after p g) Nothing t
unpaid M p g (Rises t) = unpaid M (M.after p g) Nothing t
unpaid M p g (Refused t) = unpaid M (M.after p g) TooDeep t
unpaid M p g (Calls c child t) =
    unpaid_back (ending child) (unpaid M (M.start c) Nothing child) (M.frames_at (M.after p g)) (unpaid M (M.after p g) Returned t)
unpaid M p g (Barred c t) = unpaid M (M.after p g) TooDeep t
