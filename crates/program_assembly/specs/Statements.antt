-- The statements that a run generated, and what is noted of its points with what layout and the operand checks say of these
-- statements (this project).
use Rattle.std.specs.Prelude.{ℕ, ◌+◌, List, [], ◌∷◌, ◌++◌, map, length, Option, Some, None}
use Rattle.std.specs.List.{flat_map}
use Rattle.hl_base.specs.declared.note.Note.{Note}
use Rattle.hl_base.specs.declared.place.Frame.{Frame}
use Rattle.hl_base.specs.declared.set.Line.{Line}
use Rattle.note_rows.specs.Table.{noted}
use Rattle.note_rows.specs.declared.row.Row.{Row}
use Rattle.trace_values.specs.declared.item.TraceItem.{TraceItem}
use Rattle.trace_arena.specs.Points.{Point}
use Rattle.trace_cursor.specs.Stacks.{stack_of}
use Rattle.statement_checks.specs.Layout.{Layout, layout_of, rows_of}
use Rattle.statement_checks.specs.Programs.{checked}
use Rattle.program_assembly.specs.PointNotes.{point_notes}

-- the statement that an item has, if it generated one
abbrev pub line_in : Option Line → List Line
line_in None = []
line_in (Some line) = line ∷ []

abbrev pub own_line : Point TraceItem → List Line
own_line point = line_in point.item.line

-- the statements that these points generated, in turn
abbrev pub generated : List (Point TraceItem) → List Line
generated points = flat_map own_line points

-- what is said of the statement of an item, by the number of the statement, if the item generated one
abbrev pub said_of : (said : ℕ → List Row) → (statement : ℕ) → Option Line → List Row
said_of said statement None = []
said_of said statement (Some line) = said statement

-- notes at a stack of what is said
abbrev pub rows_at : (stack : List Frame) → List Row → List Note
rows_at stack rows = map (λ row. noted row stack) rows

-- the notes of a point that so many generated statements precede: those of its expansion, and then what is said of the statement
-- that it generated
abbrev pub noted_point : (path : ℕ) → (said : ℕ → List Row) → (before : ℕ) → Point TraceItem → List Note
noted_point path said before point = point_notes path point ++ rows_at (stack_of point) (said_of said before point.item.line)

-- the notes of these points, in turn
abbrev pub noted_points : (path : ℕ) → (said : ℕ → List Row) → (before : ℕ) → List (Point TraceItem) → List Note
noted_points path said before [] = []
noted_points path said before (point ∷ points) =
    noted_point path said before point ++ noted_points path said (before + length (own_line point)) points

-- the layout of some statements, with what the operand checks say of each behind what layout says of it
abbrev pub checked_layout : List Line → Layout
checked_layout lines = checked lines (layout_of lines)

-- the notes of the points of a run, with what layout and the operand checks say of the statements that it generated
abbrev pub all_noted : (path : ℕ) → List (Point TraceItem) → List Note
all_noted path points = noted_points path (rows_of (checked_layout (generated points))) 0 points
