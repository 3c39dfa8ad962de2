-- Where a debug session stops (Debug Adapter Protocol, "Stopped Event"; this project).
use Rattle.std.specs.Prelude.{ℕ, ◌+◌, Bool, false, if◌then◌else◌, List, [], ◌∷◌, Option, Some, None, option_map, slice_get, drop}
use Rattle.std.specs.Option.{option_map_or}
use Rattle.hl_base.specs.declared.place.Origin.{Origin}
use Rattle.trace_values.specs.declared.item.TraceItem.{TraceItem}
use Rattle.trace_arena.specs.Points.{Point}
use Rattle.dap_messages.specs.declared.bodies.StopReason.{StopReason}
use Rattle.dap_messages.specs.declared.bodies.StopReason.TheVariants as told
use Rattle.macro_debugger.specs.declared.stop.StepRule.{StepRule}
use Rattle.macro_debugger.specs.declared.stop.StepRule.TheVariants.{Continue}
use Rattle.macro_debugger.specs.declared.stop.Reason.{Reason}
use Rattle.macro_debugger.specs.declared.stop.Reason.TheVariants.{Breakpoint, Step}
use Rattle.macro_debugger.specs.declared.stop.Stop.{Stop}
use Rattle.macro_debugger.specs.Stops.{is_among, depth, holds, depth_at, first_later, first_stop}
use Rattle.debug_sessions.specs.declared.breakpoints.PathLines.{PathLines}
use Rattle.debug_sessions.specs.Launches.{Launch, lines_of}

-- a breakpoint is set at a statement of a path, whose first line counts from 0 there and from 1 in breakpoints
abbrev pub breaks_in : List PathLines → (line : ℕ) → (path : List ℕ) → Bool
breaks_in breakpoints line path = is_among (line + 1) (lines_of path breakpoints)

-- a breakpoint is set where a statement begins; `paths` are the texts of paths by their numbers, and a path without a text
-- has no breakpoint
abbrev pub breaks_at : (paths : List (List ℕ)) → List PathLines → Origin → Bool
breaks_at paths breakpoints at = option_map_or (breaks_in breakpoints at.line) (slice_get paths at.path.0) false

-- why a step ends at a point, if it does: the breakpoint goes before the rule
abbrev pub reason_at : (paths : List (List ℕ)) → List PathLines → StepRule → (from : ℕ) → Point TraceItem → Option Reason
reason_at paths breakpoints rule from point =
    if breaks_at paths breakpoints point.item.frames.innermost.origin then Some Breakpoint
    else (if holds rule from (depth point) then Some Step else None)

-- the least point behind a place at which a breakpoint is set or the rule holds, seen from that place
abbrev pub stop_behind : (paths : List (List ℕ)) → List PathLines → StepRule → (place : Option ℕ) → List (Point TraceItem) → Option Stop
stop_behind paths breakpoints rule place trace =
    first_stop (reason_at paths breakpoints rule (depth_at trace place)) (first_later place) (drop (first_later place) trace)

-- the number of a point at which the program stops, and why it does
pub record Halt : Type 0 where
  pub index : ℕ
  pub reason : StopReason

-- the reason as it is told
abbrev pub reason_told : Reason → StopReason
reason_told Breakpoint = told.Breakpoint
reason_told Step = told.Step

abbrev pub halt_of : Stop → Halt
halt_of stop = record { index = stop.index; reason = reason_told stop.reason }

-- the first point, if there is one
abbrev pub entry : List (Point TraceItem) → Option Halt
entry [] = None
entry (p ∷ ps) = Some (record { index = 0; reason = told.Entry })

-- where a launch stops first: at its entry if that is wanted, else at the first breakpoint
abbrev pub first_halt : (paths : List (List ℕ)) → List PathLines → (stops_on_entry : Bool) → List (Point TraceItem) → Option Halt
first_halt paths breakpoints stops_on_entry trace =
    if stops_on_entry then entry trace
    else option_map halt_of (stop_behind paths breakpoints Continue None trace)

-- where it stops next, where it is stopped at the point of a number
abbrev pub next_halt : (paths : List (List ℕ)) → List PathLines → StepRule → List (Point TraceItem) → (index : ℕ) → Option Halt
next_halt paths breakpoints rule trace index = option_map halt_of (stop_behind paths breakpoints rule (Some index) trace)

-- a launch that has come to a stop, or to the end of its trace
abbrev pub halted : Launch → Option Halt → Launch
halted launch halt = record launch { stop = option_map (λ h. h.index) halt }
