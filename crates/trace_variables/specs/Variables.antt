-- The variables of a frame of a point (HLASM Language Reference SC26-4940, "SET symbols"; this project).
use Rattle.std.specs.Prelude.{◌==◌, ◌&&◌, ℕ, Bool, true, false, nat_lt, List, ◌++◌, Option, map, take, filter, slice_get}
use Rattle.std.specs.Bool.{beq}
use Rattle.std.specs.List.{flat_map, list_any}
use Rattle.std.specs.Option.{option_map, option_and_then}
use Rattle.std.specs.Str.{bytes_eq}
use Rattle.hl_base.specs.declared.set.Declaration.{Declaration}
use Rattle.hl_base.specs.declared.set.SetValue.{SetValue}
use Rattle.trace_values.specs.declared.item.TraceItem.{TraceItem}
use Rattle.trace_values.specs.declared.variable.Variable.{Variable}
use Rattle.trace_arena.specs.Points.{Point}
use Rattle.trace_variables.specs.Values.{VariableKey, place_of, local_values, global_values}
use Rattle.trace_variables.specs.Calls.{level_of, done_before}
use Rattle.trace_variables.specs.Shown.{shown}

-- A declaration makes a global symbol known, of which this is an element: one without a subscript element 0, and one with a
-- subscript each other.
abbrev pub makes_known : VariableKey → Declaration → Bool
makes_known key d =
    d.global && (bytes_eq key.name d.name && ((place_of key.kind == place_of d.kind) && beq (nat_lt 0 key.element) d.array))

-- one of these items declared the global symbol of a value
abbrev pub is_known : List TraceItem → VariableKey × SetValue → Bool
is_known items entry = list_any (makes_known entry.0) (flat_map (λ item. item.declared) items)

-- The variables of the call of a level, where these are the points before one of this item that is within the call: the local ones
-- by what the call had done, and then the global ones that the call declared, by what the items of all points left of them.
abbrev pub rows_at : List (Point TraceItem) → ℕ → TraceItem → List Variable
rows_at before level own =
    let done = done_before level before in
    map (shown false) (local_values done own)
    ++ map (shown true) (filter (is_known done) (global_values (map (λ p. p.item) before)))

-- The variables of the frame of a number, of the point of a number: those of the frame's call. There are none exactly where the
-- point has no such frame. Points are counted from 0, frames from 1, the innermost first.
abbrev pub variables_of : List (Point TraceItem) → (index frame : ℕ) → Option (List Variable)
variables_of trace index frame =
    option_and_then
    (λ point. option_map (λ level. rows_at (take index trace) level point.item) (level_of point frame))
    (slice_get trace index)
