-- Plain expansion: the statements that a call processes over a world, in turn. Nothing is kept of earlier expansions. This
-- project, after the Language Reference (SC26-4940): conditional assembly, macro calls, COPY.
use Rattle.std.specs.Prelude.{ℕ, zero, suc, ◌+◌, ◌-◌, Bool, true, false, nat_lt, if◌then◌else◌, List, [], ◌∷◌, ◌++◌, map, length, max, Option, Some, None, option_map, slice_get}
use Rattle.kept_values.specs.Trees.{Tree, Pair}
use Rattle.trace_arena.specs.Points as trace
use Rattle.trace_arena.specs.Points.{own, within}
use Rattle.asking_core.specs.Worlds.{WorldModel}
use Rattle.asking_core.specs.Runs.{Ending, ByLeave, ByEnd, ByBudget, deepest_depth}
use Rattle.plain_expansion.specs.Questions.{result_by}
use Rattle.plain_expansion.specs.Language.{Vocabulary, Level, Stack, Entry, Nowhere, Calling, Copying, Act, Continues, Skips, Branches, Enters, Returns, Finishes, Fault, NoFault, NoLabel, NoBranchLeft, NoRoom, Point, Language}

-- the statement behind this one
abbrev pub next_of : {V : Vocabulary} → Level V → Level V
next_of l = record l { position = l.position + 1 }

abbrev pub stepped : {V : Vocabulary} → Stack V → Stack V
stepped x = record x { here = next_of x.here }

-- where a list has the first statement with a label
abbrev pub first_where : {S : Type 0} → (S → Bool) → List S → Option ℕ
first_where holds [] = None
first_where holds (s ∷ ss) = if holds s then Some 0 else option_map (λ n. n + 1) (first_where holds ss)

abbrev pub place_of : (L : Language) → L.words.Listing → L.words.Label → Option ℕ
place_of L listing label = first_where (λ s. L.has_label s label) (L.statements_of listing)

-- How a call goes on behind a point: with a place, at once or after puts; back to its caller; out of all; or into one more
-- frame, if there is room, and otherwise, with a point of its own, to the next statement.
pub data Going (V : Vocabulary) : Type 0 where
  GoesOn : (point : Point V) (puts : List Pair) (next : Stack V) → Going V
  GoesBack : (point : Point V) → Going V
  GoesOut : (point : Point V) → Going V
  GoesIn : (point limited : Point V) (entry : Entry V) → Going V

-- what a branch comes to, by where its label is and what is known after it
abbrev pub branched : {V : Vocabulary} → Option ℕ → Option V.Known → (Fault → Point V) → Stack V → Going V
branched None known point x = GoesOn (point NoLabel) [] (stepped x)
branched (Some n) None point x = GoesBack (point NoBranchLeft)
branched (Some n) (Some known) point x = GoesOn (point NoFault) []
    (record x { known = known; here = record { listing = x.here.listing; position = n } })

-- what an act comes to; a branch looks for its label in the innermost list
abbrev pub carried : (L : Language) → L.words.Said → Act L.words → Stack L.words → Going L.words
carried L said (Continues known puts) x =
    GoesOn (record { stack = x; said = said; fault = NoFault }) puts (record (stepped x) { known = known })
carried L said (Skips position known puts) x =
    GoesOn (record { stack = x; said = said; fault = NoFault }) puts
    (record x { known = known; here = record { listing = x.here.listing; position = position } })
carried L said (Branches label known) x =
    branched (place_of L x.here.listing label) known (λ fault. record { stack = x; said = said; fault = fault }) x
carried L said (Enters limited entry) x =
    GoesIn (record { stack = x; said = said; fault = NoFault }) (record { stack = x; said = limited; fault = NoRoom }) entry
carried L said Returns x = GoesBack (record { stack = x; said = said; fault = NoFault })
carried L said Finishes x = GoesOut (record { stack = x; said = said; fault = NoFault })

-- where a call starts, with the answers to the keys of its entry
abbrev pub first_stack : (L : Language) → L.words.Call → List Pair → Stack L.words
first_stack L call pairs = record {
  is_open_code = L.is_open_code call;
  known = L.bound call pairs;
  here = record { listing = L.listing_of call; position = 0 };
  below = [];
}

-- where a call is once it copies a list
abbrev pub copying : {V : Vocabulary} → V.Listing → Stack V → Stack V
copying listing x = record x { here = record { listing = listing; position = 0 }; below = next_of x.here ∷ x.below }

-- what a call meets: a statement, or its end. A list at its end goes back to the one that copied it.
pub data Met (V : Vocabulary) : Type 0 where
  Over : Met V
  Meets : (statement : V.Statement) (here : Level V) (below : List (Level V)) → Met V

abbrev pub statement_at : (L : Language) → Level L.words → Option L.words.Statement
statement_at L l = slice_get (L.statements_of l.listing) l.position

abbrev pub met_from : (L : Language) → Option L.words.Statement → Level L.words → List (Level L.words) → Met L.words
met_from L (Some statement) l ls = Meets statement l ls
met_from L None l [] = Over
met_from L None l (m ∷ ls) = met_from L (statement_at L m) m ls

-- the statement that copies a list: the one before the place where its own list goes on
abbrev pub copier : {V : Vocabulary} → Level V → Level V
copier l = record l { position = l.position - 1 }

-- the number of the outermost statement: where lists are copied, of the one in the outermost list that copies
abbrev pub outermost : {V : Vocabulary} → Level V → List (Level V) → ℕ
outermost l [] = l.position
outermost l (m ∷ ls) = outermost (copier m) ls

-- a world after puts, in turn
abbrev pub put_each : (W : WorldModel) → W.State → List Pair → W.State
put_each W s [] = s
put_each W s (p ∷ ps) = put_each W (W.after_put s p.key p.value) ps

-- a world that knows which of its outermost statements is processed
abbrev pub placed : (W : WorldModel) → Bool → W.State → ℕ → W.State
placed W true s n = W.after_at s n
placed W false s n = s

-- what a world answers to keys
abbrev pub answers_of : (W : WorldModel) → W.State → List Tree → List Pair
answers_of W s keys = map (λ key. record { key = key; value = W.answer s key }) keys

-- What comes of it: what is kept of each point, in order, in a nested call with the points that called; the world after; how many statements were processed; how it ended;
-- how many frames it wanted to stand in one another at most; and where fuel was wanting, the frames of the statement that
-- was not processed, innermost first.
pub record Expansion (I F A : Type 0) : Type 0 where
  pub points : List (trace.Point I)
  pub world : A
  pub cost : ℕ
  pub ended : Ending
  pub nested : ℕ
  pub unpaid : List F

-- nothing is processed any more
abbrev pub ended_by : {I F A : Type 0} → Ending → A → Expansion I F A
ended_by end s = record { points = []; world = s; cost = 0; ended = end; nested = 0; unpaid = [] }

-- there is no fuel for the statement that is met
abbrev pub spent_at : {I F A : Type 0} → F → A → Expansion I F A
spent_at frames s = record { points = []; world = s; cost = 0; ended = ByBudget; nested = 0; unpaid = frames ∷ [] }

-- a point, and then the rest
abbrev pub pointed : {I F A : Type 0} → I → Expansion I F A → Expansion I F A
pointed item e = record e { points = own item ∷ e.points }

-- the points of a nested call stand behind the point that called
abbrev pub behind : {I F A : Type 0} → List I → Expansion I F A → Expansion I F A
behind calls e = record e { points = map (within calls) e.points }

-- a unit of fuel, and then the rest
abbrev pub paid : {I F A : Type 0} → Expansion I F A → Expansion I F A
paid e = record e { cost = e.cost + 1 }

-- room for so many frames, and then the rest
abbrev pub nesting : {I F A : Type 0} → ℕ → Expansion I F A → Expansion I F A
nesting frames e = record e { nested = max frames e.nested }

-- A nested call, within so many frames, and then the rest of its caller, if it left: where it ended all, or fuel was wanting,
-- so does the caller. `frames` are those of the caller.
abbrev pub come_back : {I F A : Type 0} → Ending → ℕ → F → (A → A) → Expansion I F A → Expansion I F A → Expansion I F A
come_back ByLeave within frames leave child rest = record {
  points = child.points ++ rest.points;
  world = rest.world;
  cost = child.cost + rest.cost;
  ended = rest.ended;
  nested = max (within + child.nested) rest.nested;
  unpaid = rest.unpaid;
}
come_back ByEnd within frames leave child rest = record child { world = leave child.world; nested = within + child.nested; unpaid = [] }
come_back ByBudget within frames leave child rest =
    record child { world = leave child.world; nested = within + child.nested; unpaid = child.unpaid ++ frames ∷ [] }

-- The expansion from a place on: from a state of the world, with so much fuel, of a call at a depth.
abbrev pub Expands : Language → WorldModel → Type 0
Expands L W = Stack L.words → W.State → (fuel depth : ℕ) → Expansion L.Item L.Frames W.State

module _ (L : Language) (W : WorldModel) (expand : Expands L W) where
  -- the frames at a place
  abbrev pub frames_at : Stack L.words → L.Frames
  frames_at x = L.frames_of (x.here ∷ x.below)

  -- a nested call, one frame deeper than the frames that stand open in its caller, behind the item of the point that called,
  -- and what follows it
  abbrev pub called : L.Item → L.words.Call → Stack L.words → W.State → (fuel depth : ℕ) → Expansion L.Item L.Frames W.State
  called item call x s fuel depth =
      let child = expand (first_stack L call (answers_of W s (L.entry_keys call))) s fuel (depth + length x.below + 1) in
      come_back child.ended (length x.below + 1) (frames_at x) W.after_leave (behind (item ∷ []) child)
      (expand (stepped x) (W.after_leave child.world) (fuel - child.cost) depth)

  -- what is entered, where there is room
  abbrev pub entered : L.Item → Entry L.words → Stack L.words → W.State → (fuel depth : ℕ) → Expansion L.Item L.Frames W.State
  entered item Nowhere x s fuel depth = expand (stepped x) s fuel depth
  entered item (Calling call puts) x s fuel depth =
      called item call x (W.after_enter (put_each W (W.after_bump s 1) puts)) fuel depth
  entered item (Copying listing) x s fuel depth = expand (copying listing x) s fuel depth

  -- a point, and what follows it; frames and calls stand in one another so deep at most
  abbrev pub followed : Going L.words → Stack L.words → W.State → (fuel depth : ℕ) → Expansion L.Item L.Frames W.State
  followed (GoesOn point puts next) x s fuel depth = pointed (L.item_of point) (expand next (put_each W s puts) fuel depth)
  followed (GoesBack point) x s fuel depth = pointed (L.item_of point) (ended_by ByLeave s)
  followed (GoesOut point) x s fuel depth = pointed (L.item_of point) (ended_by ByEnd s)
  followed (GoesIn point limited entry) x s fuel depth =
      if nat_lt (depth + length x.below) deepest_depth
      then nesting (length x.below + 1) (pointed (L.item_of point) (entered (L.item_of point) entry x s fuel depth))
      else pointed (L.item_of limited) (expand (stepped x) s fuel depth)

  -- a statement that is processed: its effect under what the world answers
  abbrev pub processed : L.words.Statement → Stack L.words → W.State → (fuel depth : ℕ) → Expansion L.Item L.Frames W.State
  processed statement x s fuel depth =
      let effect = result_by (W.answer s) (L.effect_of statement x.known) in
      followed (carried L effect.said effect.act x) x s fuel depth

  -- a statement that is met takes a unit of fuel; in open code the world is told of it
  abbrev pub met_with : Met L.words → Stack L.words → W.State → (fuel depth : ℕ) → Expansion L.Item L.Frames W.State
  met_with Over x s fuel depth = ended_by ByLeave s
  met_with (Meets statement here below) x s zero depth = spent_at (L.frames_of (here ∷ below)) s
  met_with (Meets statement here below) x s (suc fuel) depth =
      paid (processed statement (record x { here = here; below = below }) (placed W x.is_open_code s (outermost here below)) fuel depth)

-- The expansion from a place on. The first number is free, if it is greater than the fuel.
abbrev pub expand : (gas : ℕ) (L : Language) (W : WorldModel) → Expands L W
expand zero L W x s fuel depth = spent_at (L.frames_of (x.here ∷ x.below)) s
expand (suc gas) L W x s fuel depth = met_with L W (expand gas L W) (met_from L (statement_at L x.here) x.here x.below) x s fuel depth

-- The plain expansion of a call from a state of the world, with so much fuel, at a depth.
abbrev pub expansion : (L : Language) (W : WorldModel) → L.words.Call → W.State → (fuel depth : ℕ) → Expansion L.Item L.Frames W.State
expansion L W call s fuel depth = expand (fuel + 1) L W (first_stack L call (answers_of W s (L.entry_keys call))) s fuel depth
