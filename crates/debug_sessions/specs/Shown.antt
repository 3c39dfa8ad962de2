-- What a debug session shows of the point where its program is stopped (Debug Adapter Protocol, `StackFrame`, `Variable`; this
-- project).
use Rattle.std.specs.Prelude.{ℕ, if◌then◌else◌, ◌+◌, ◌/◌, ◌%◌, ◌==◌, ◌&&◌, ℤ, pos, negsuc, Bool, nat_le, nat_lt, List, [], ◌∷◌, Option, Some, None, option_and_then, map, filter, reverse, length, codes, chars, slice_get, unwrap_or}
use Rattle.std.specs.Bool.{beq}
use Rattle.std.specs.Option.{option_map_or}
use Rattle.hl_base.specs.declared.place.Frame.{Frame}
use Rattle.hl_base.specs.declared.place.FrameKind.{FrameKind}
use Rattle.hl_base.specs.declared.place.FrameKind.TheVariants.{OpenCode, Macro, Copy}
use Rattle.trace_values.specs.declared.item.TraceItem.{TraceItem}
use Rattle.trace_values.specs.declared.variable.Variable as kept
use Rattle.trace_arena.specs.Points.{Point}
use Rattle.trace_cursor.specs.Stacks.{stack_of, counted}
use Rattle.trace_variables.specs.Variables.{variables_of}
use Rattle.dap_messages.specs.declared.bodies.StackFrame.{StackFrame}
use Rattle.dap_messages.specs.declared.bodies.Variable.{Variable}
use Rattle.debug_sessions.specs.Launches.{Launch}

-- ---- frames

-- the name of what a frame runs: that of the macro, that of the member, or OPEN CODE
abbrev pub name_of : FrameKind → Option (List ℕ) → List ℕ
name_of OpenCode name = codes "OPEN CODE"
name_of Macro name = unwrap_or name []
name_of Copy name = unwrap_or name []

-- a frame as it is shown, its line counted from 1; `paths` are the texts of paths by their numbers
abbrev pub shown_frame : (paths : List (List ℕ)) → Frame → StackFrame
shown_frame paths frame = record {
  name = chars (name_of frame.kind frame.name);
  path = unwrap_or (slice_get paths frame.origin.path.0) [];
  line = counted (frame.origin.line + 1);
}

-- the frames of a point, the innermost first
abbrev pub stack_at : List (Point TraceItem) → (index : ℕ) → List Frame
stack_at trace index = option_map_or (λ point. reverse (stack_of point)) (slice_get trace index) []

-- those of the point where a launch is stopped; none where it is not
abbrev pub stack : Launch → List Frame
stack launch = option_map_or (stack_at launch.trace) launch.stop []

-- a frame of this number is among so many, which are numbered from 1
abbrev pub is_frame : (count frame : ℕ) → Bool
is_frame count frame = nat_lt 0 frame && nat_le frame count

-- ---- variables

-- a number as it is asked for: a negative one is of nothing, as 0 is
abbrev pub asked : ℤ → ℕ
asked (pos n) = n
asked (negsuc n) = 0

-- the frame whose variables a reference is of: those of frame n have the references 2n - 1 (the local ones) and 2n
abbrev pub frame_of_reference : (reference : ℕ) → ℕ
frame_of_reference reference = (reference + 1) / 2

-- a reference is of global variables
abbrev pub is_global : (reference : ℕ) → Bool
is_global reference = reference % 2 == 0

-- a variable as it is shown
abbrev pub shown_variable : kept.Variable → Variable
shown_variable variable = record { name = variable.name; value = variable.value }

-- the variables of a frame of the point of a number, the global ones or the local ones; none where there is no such frame
unfoldable pub rows_of : List (Point TraceItem) → (index frame : ℕ) → (globals : Bool) → List kept.Variable
rows_of trace index frame globals =
    if is_frame (length (stack_at trace index)) frame then filter (λ v. beq v.global globals) (unwrap_or (variables_of trace index frame) [])
    else []

-- the variables under a reference, at the point of a number
abbrev pub variables_at : List (Point TraceItem) → (index reference : ℕ) → List Variable
variables_at trace index reference = map shown_variable (rows_of trace index (frame_of_reference reference) (is_global reference))
