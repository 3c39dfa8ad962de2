-- Where a debugger stops: the rules of steps, and the first point at which one ends (Debug Adapter Protocol; this project).
use Rattle.std.specs.Prelude.{ℕ, Bool, true, false, ◌+◌, ◌==◌, if◌then◌else◌, nat_le, nat_lt, Option, Some, None, List, [], ◌∷◌, drop, slice_get}
use Rattle.std.specs.List.{fold, list_any}
use Rattle.std.specs.Option.{option_map_or}
use Rattle.std.specs.Ordering.{nat_cmp}
use Rattle.std.specs.Map.{lookup}
use Rattle.std.specs.BTreeMap.{insert_entry}
use Rattle.std.specs.BTreeSet.{insert_key}
use Rattle.hl_base.specs.declared.place.Origin.{Origin}
use Rattle.trace_values.specs.declared.item.TraceItem.{TraceItem}
use Rattle.trace_arena.specs.Points.{Point}
use Rattle.trace_cursor.specs.Stacks.{depth_of, counted}
use Rattle.macro_debugger.specs.declared.stop.StepRule.{StepRule}
use Rattle.macro_debugger.specs.declared.stop.StepRule.TheVariants.{In, Over, Out, Continue}
use Rattle.macro_debugger.specs.declared.stop.Reason.{Reason}
use Rattle.macro_debugger.specs.declared.stop.Reason.TheVariants.{Breakpoint, Step}
use Rattle.macro_debugger.specs.declared.stop.Stop.{Stop}

-- where breakpoints are set: the files in the order of their numbers, each with its lines in order
abbrev pub Breaks : Type 0
Breaks = List (ℕ × List ℕ)

-- each of these lines once, in order
abbrev pub in_order : List ℕ → List ℕ
in_order lines = fold (insert_key nat_cmp) [] lines

-- breakpoints at these lines of the file of a path, in place of those that it had
abbrev pub replaced : ℕ → List ℕ → Breaks → Breaks
replaced path lines breaks = insert_entry nat_cmp breaks path (in_order lines)

-- a line is one of these
abbrev pub is_among : ℕ → List ℕ → Bool
is_among n lines = list_any (λ line. n == line) lines

-- a breakpoint is set where a statement begins
abbrev pub is_set : Breaks → Origin → Bool
is_set breaks at = option_map_or (is_among at.line) (lookup (λ path. at.path.0 == path) breaks) false

-- how deep a point is, as far as 32 bits count it
abbrev pub depth : Point TraceItem → ℕ
depth point = counted (depth_of point)

-- a rule holds at a point of this depth, seen from a place of that depth
abbrev pub holds : StepRule → ℕ → ℕ → Bool
holds In from deep = true
holds Over from deep = nat_le deep from
holds Out from deep = nat_lt deep from
holds Continue from deep = false

-- a breakpoint is set where the statement of the point begins, in its innermost frame
abbrev pub breaks_at : Breaks → Point TraceItem → Bool
breaks_at breaks point = is_set breaks point.item.frames.innermost.origin

-- why a step ends at a point, if it does: the breakpoint goes before the rule
abbrev pub reason_at : Breaks → StepRule → ℕ → Point TraceItem → Option Reason
reason_at breaks rule from point =
    if breaks_at breaks point then Some Breakpoint
    else (if holds rule from (depth point) then Some Step else None)

-- the point of a place, which is the number of a point, or none before the first point
abbrev pub point_at : List (Point TraceItem) → Option ℕ → Option (Point TraceItem)
point_at trace None = None
point_at trace (Some index) = slice_get trace index

-- how deep a place is; before the first point that is 0, as in open code
abbrev pub depth_at : List (Point TraceItem) → Option ℕ → ℕ
depth_at trace place = option_map_or depth (point_at trace place) 0

-- the number of the first point behind a place
abbrev pub first_later : Option ℕ → ℕ
first_later None = 0
first_later (Some index) = index + 1

-- the stop at a point for which there is a reason, and else a later one
abbrev pub stop_or : ℕ → Option Reason → Option Stop → Option Stop
stop_or index None later = later
stop_or index (Some reason) later = Some (record { index = index; reason = reason })

-- the stop at the first of these points for which there is a reason, where the first of them has this number
abbrev pub first_stop : (Point TraceItem → Option Reason) → ℕ → List (Point TraceItem) → Option Stop
first_stop reason index [] = None
first_stop reason index (p ∷ ps) = stop_or index (reason p) (first_stop reason (index + 1) ps)

-- the stop of a step by a rule from a place of a trace
abbrev pub stop_behind : Breaks → StepRule → Option ℕ → List (Point TraceItem) → Option Stop
stop_behind breaks rule place trace =
    first_stop (reason_at breaks rule (depth_at trace place)) (first_later place) (drop (first_later place) trace)
