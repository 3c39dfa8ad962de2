-- The calls that are running at the points of a trace (this project). A call is known by its level: how many calls stand round it.
use Rattle.std.specs.Prelude.{◌≡◌, ◌-◌, ℕ, zero, suc, List, [], ◌∷◌, ◌++◌, length, replicate, slice_get, Option, Some, None}
use Rattle.std.specs.List.{fold}
use Rattle.hl_base.specs.declared.place.Origin.{Origin}
use Rattle.trace_arena.specs.Points.{Point}
use Rattle.trace_values.specs.declared.item.TraceItem.{TraceItem}
use Rattle.trace_variables.specs.Calls.{done_before}
use Rattle.variable_meanings.specs.Meanings.{Call, call_before, entered, after_item}
use Rattle.running_calls.specs.declared.calls.RunningCall.{RunningCall}

-- ---- as a function of what a call has done

-- where the statement of a point stands
abbrev pub place_of : TraceItem → Origin
place_of item = item.frames.innermost.origin

-- a call behind a statement of it
abbrev pub behind_item : RunningCall → TraceItem → RunningCall
behind_item call item = record { variables = after_item call.variables item; at = place_of item }

-- a call at its first point
abbrev pub begun : TraceItem → RunningCall
begun first = record { variables = entered first.definition first.entry; at = place_of first }

-- a call that has done this; one that has done nothing is not running
abbrev pub running : (done : List TraceItem) → Option RunningCall
running [] = None
running (first ∷ more) = Some (fold behind_item (begun first) (first ∷ more))

-- what variable symbols mean in a call that is running, or in the one that is entered at a point
abbrev pub variables_or : Option RunningCall → TraceItem → Call
variables_or (Some call) item = call.variables
variables_or None item = entered item.definition item.entry

-- what variable symbols mean in the call of a point of a level, before the statement of the point, where these points stand
-- before it
abbrev pub variables_at : (before : List (Point TraceItem)) → (level : ℕ) → TraceItem → Call
variables_at before level item = variables_or (running (done_before level before)) item

-- a call behind a statement, if it is running
abbrev pub behind_some : Option RunningCall → TraceItem → Option RunningCall
behind_some None item = None
behind_some (Some call) item = Some (behind_item call item)

-- ---- as they are kept

-- what is there, if something is
abbrev pub inner : Option (Option RunningCall) → Option RunningCall
inner None = None
inner (Some call) = call

-- the call of a level
abbrev pub held : List (Option RunningCall) → (level : ℕ) → Option RunningCall
held calls level = inner (slice_get calls level)

-- no call for each level up to this one that has none
abbrev pub padded : (level : ℕ) → List (Option RunningCall) → List (Option RunningCall)
padded level calls = calls ++ replicate (level - length calls) None

-- the calls of so many levels; none is there of a level that has none
abbrev pub outside : List (Option RunningCall) → (count : ℕ) → List (Option RunningCall)
outside calls zero = []
outside [] (suc count) = None ∷ outside [] count
outside (call ∷ calls) (suc count) = call ∷ outside calls count

-- the call of a point that is met
abbrev pub reached : Option RunningCall → TraceItem → RunningCall
reached held item = record { variables = variables_or held item; at = place_of item }

-- once a point of a level is met: the calls outside the level, and its own
abbrev pub met : List (Option RunningCall) → (level : ℕ) → TraceItem → List (Option RunningCall)
met calls level item = outside calls level ++ Some (reached (held calls level) item) ∷ []

-- once its statement is processed
abbrev pub passed : List (Option RunningCall) → (level : ℕ) → TraceItem → List (Option RunningCall)
passed calls level item = outside calls level ++ Some (behind_item (reached (held calls level) item) item) ∷ []

-- the calls that are kept are those of these points
abbrev pub Follows : List (Option RunningCall) → List (Point TraceItem) → Type 0
Follows calls points = (level : ℕ) → held calls level ≡ running (done_before level points)

-- so they are behind one point more
abbrev pub FollowsOn : Type 0
FollowsOn = (calls : List (Option RunningCall)) (before : List (Point TraceItem)) (point : Point TraceItem) → Follows calls before →
    Follows (passed calls (length point.calls) point.item) (before ++ point ∷ [])

-- a call that has done this goes on in the definition in which it began
abbrev pub GoesOn : (done : List TraceItem) → TraceItem → Type 0
GoesOn [] item = Unit {0}
GoesOn (first ∷ more) item = first.definition ≡ item.definition

-- then variable symbols mean at a point what all points before it tell
abbrev pub MeansAsTold : Type 0
MeansAsTold = (before : List (Point TraceItem)) (level : ℕ) (item : TraceItem) → GoesOn (done_before level before) item →
    variables_at before level item ≡ call_before before level item
