-- Which frames have variables (this project).
use Rattle.std.specs.Prelude.{◌↔◌, ℕ, ◌<◌, ◌≤◌, List, Option, Some, None, length, slice_get, IsSome}
use Rattle.trace_values.specs.declared.item.TraceItem.{TraceItem}
use Rattle.trace_arena.specs.Points.{Point}
use Rattle.trace_cursor.specs.Stacks.{stack_of}
use Rattle.trace_variables.specs.Variables.{variables_of}

-- there is a point, and it has the frame of a number, counted from 1
abbrev pub HasFrame : Option (Point TraceItem) → ℕ → Type 0
HasFrame None frame = ⊥
HasFrame (Some point) frame = (0 < frame) × (frame ≤ length (stack_of point))

-- each frame of a point has its variables, and nothing else has
abbrev pub FramesHaveVariables : Type 0
FramesHaveVariables = (trace : List (Point TraceItem)) (index frame : ℕ) →
    IsSome (variables_of trace index frame) ↔ HasFrame (slice_get trace index) frame
