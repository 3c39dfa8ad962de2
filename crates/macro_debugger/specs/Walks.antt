-- A walk through the points of a trace, and what it shows of the point where it stands (this project).
use Rattle.std.specs.Prelude.{◌≡◌, ℕ, ◌<◌, ◌≤◌, Bool, Option, Some, None, List, [], length, filter}
use Rattle.std.specs.Bool.{beq}
use Rattle.std.specs.Option.{option_map, option_and_then}
use Rattle.hl_base.specs.declared.place.Frame.{Frame}
use Rattle.trace_values.specs.declared.item.TraceItem.{TraceItem}
use Rattle.trace_values.specs.declared.variable.Variable.{Variable}
use Rattle.trace_arena.specs.declared.node.NodeId.{NodeId}
use Rattle.trace_arena.specs.Nodes.{Node, IsLive}
use Rattle.trace_arena.specs.Points.{Point, points}
use Rattle.trace_cursor.specs.Stacks.{stack_of}
use Rattle.trace_variables.specs.Variables.{variables_of}
use Rattle.macro_debugger.specs.declared.stop.StepRule.{StepRule}
use Rattle.macro_debugger.specs.declared.stop.Stop.{Stop}
use Rattle.macro_debugger.specs.Stops.{Breaks, point_at, stop_behind}

-- the root of the trace and how many points it has, the number of the point where the walk stands, or none before the first,
-- and where breakpoints are set
pub record Walk : Type 0 where
  pub root : NodeId
  pub points : ℕ
  pub place : Option ℕ
  pub breakpoints : Breaks

-- a walk that begins
abbrev pub launched : NodeId → ℕ → Walk
launched root count = record { root = root; points = count; place = None; breakpoints = [] }

-- the points through which a walk leads
abbrev pub trace_of : List (Node TraceItem) → Walk → List (Point TraceItem)
trace_of nodes walk = points nodes walk.root.0

-- the trace of a walk is there: its root is live and has the points that it had when the walk began
pub record HasTrace (nodes : List (Node TraceItem)) (walk : Walk) : Type 0 where
  pub live : IsLive nodes walk.root.0
  pub whole : length (trace_of nodes walk) ≡ walk.points

-- the next stop of a walk in its trace
abbrev pub next_stop : Walk → List (Point TraceItem) → StepRule → Option Stop
next_stop walk trace rule = stop_behind walk.breakpoints rule walk.place trace

-- a walk stands at its stop, and where it was if there is none
abbrev pub place_after : Option ℕ → Option Stop → Option ℕ
place_after place None = place
place_after place (Some stop) = Some stop.index

abbrev pub stepped : Walk → Option Stop → Walk
stepped walk stop = record walk { place = place_after walk.place stop }

-- the point of a trace where a walk stands, if it stands at one
abbrev pub here : List (Point TraceItem) → Walk → Option (Point TraceItem)
here trace walk = point_at trace walk.place

-- the frames of that point, outermost first
abbrev pub stack_here : List (Point TraceItem) → Walk → Option (List Frame)
stack_here trace walk = option_map stack_of (here trace walk)

-- there is a stack, and it has a frame of this number, counted from 1, the innermost first
abbrev pub IsFrame : Option (List Frame) → ℕ → Type 0
IsFrame None frame = ⊥
IsFrame (Some frames) frame = (0 < frame) × (frame ≤ length frames)

-- of the variables of a frame of that point the global ones, or the local ones, as they are shown
abbrev pub variables_here : List (Point TraceItem) → Walk → ℕ → Bool → Option (List Variable)
variables_here trace walk frame globals =
    option_map (filter (λ v. beq v.global globals)) (option_and_then (λ index. variables_of trace index frame) walk.place)
