-- What a debug session keeps of its launch, and of its breakpoints (Debug Adapter Protocol, "Launch Request",
-- "SetBreakpoints Request"; this project).
use Rattle.std.specs.Prelude.{ℕ, Bool, false, List, [], Option, None, find}
use Rattle.std.specs.Option.{option_map_or}
use Rattle.std.specs.Str.{bytes_eq}
use Rattle.trace_values.specs.declared.item.TraceItem.{TraceItem}
use Rattle.trace_arena.specs.Points.{Point}
use Rattle.debug_sessions.specs.Places.{with_one}
use Rattle.debug_sessions.specs.declared.breakpoints.PathLines.{PathLines}

-- the points of the trace of the program as it was at the launch, whether the first of them is to be a stop, whether
-- configurationDone came, and the number of the point where the program is stopped, if it is
pub record Launch : Type 0 where
  pub trace : List (Point TraceItem)
  pub stops_on_entry : Bool
  pub is_started : Bool
  pub stop : Option ℕ

-- a launch of this trace, which has not begun
abbrev pub launch_of : Bool → List (Point TraceItem) → Launch
launch_of stops_on_entry trace = record { trace = trace; stops_on_entry = stops_on_entry; is_started = false; stop = None }

-- breakpoints are those of a path
abbrev pub has_path : (path : List ℕ) → PathLines → Bool
has_path path b = bytes_eq b.path path

-- the lines of the breakpoints of a path
abbrev pub lines_of : (path : List ℕ) → List PathLines → List ℕ
lines_of path bs = option_map_or (λ b. b.lines) (find (has_path path) bs) []

-- breakpoints with these in the place of those of their path, or behind all others where it has none
abbrev pub with_lines : PathLines → List PathLines → List PathLines
with_lines new bs = with_one (has_path new.path) new bs
