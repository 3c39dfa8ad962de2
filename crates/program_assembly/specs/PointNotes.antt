-- What is noted of the points of a run (this project).
use Rattle.std.specs.Prelude.{ℕ, ◌==◌, Bool, not, List, [], ◌∷◌, map, filter, Option, Some, None, if◌then◌else◌}
use Rattle.std.specs.List.{list_any}
use Rattle.hl_base.specs.declared.note.Note.{Note}
use Rattle.hl_base.specs.declared.place.Frame.{Frame}
use Rattle.hlasm_statements.specs.declared.fault.ColumnFault.{ColumnFault}
use Rattle.hlasm_statements.specs.declared.fault.ColumnFault.TheVariants.{MarginText, SurplusLines, MissingLine}
use Rattle.macro_expand.specs.Items.{column_row}
use Rattle.note_rows.specs.Table.{line}
use Rattle.trace_values.specs.declared.item.TraceItem.{TraceItem}
use Rattle.trace_arena.specs.Points.{Point}
use Rattle.trace_cursor.specs.Stacks.{stack_of}

-- a note at a stack
abbrev pub at_stack : List Frame → Note → Note
at_stack stack note = record note { stack = stack }

abbrev pub notes_at : List Frame → List Note → List Note
notes_at stack notes = map (at_stack stack) notes

-- whether a note is that of a column fault
abbrev pub is_of : Note → ColumnFault → Bool
is_of note fault = note.code == (line (column_row fault)).code

abbrev pub is_of_columns : Note → Bool
is_of_columns note = list_any (is_of note) (MarginText ∷ SurplusLines ∷ MissingLine ∷ [])

-- whether the statement of an item stands in the text of a path, whatever frame it is in
abbrev pub stands_in : (path : ℕ) → TraceItem → Bool
stands_in path item = item.frames.innermost.origin.path.0 == path

-- what is noted at the point of an item: the column faults of the program's own text are in the list already, by line
abbrev pub without_columns : List Note → List Note
without_columns notes = filter (λ note. not (is_of_columns note)) notes

abbrev pub noted_at : (path : ℕ) → TraceItem → List Note
noted_at path item = if stands_in path item then without_columns item.notes else item.notes

-- the notes of a point of the program of a path, each at the whole stack of the point
abbrev pub point_notes : (path : ℕ) → Point TraceItem → List Note
point_notes path point = notes_at (stack_of point) (noted_at path point.item)

-- the whole stack of a point, if it is there
abbrev pub stack_at : Option (Point TraceItem) → List Frame
stack_at None = []
stack_at (Some point) = stack_of point
