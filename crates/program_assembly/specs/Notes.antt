-- What is reported of a program whose open code was run (this project).
use Rattle.std.specs.Prelude.{◌==◌, ◌&&◌, ℕ, Bool, true, false, List, [], ◌∷◌, ◌++◌, if◌then◌else◌}
use Rattle.std.specs.List.{list_any}
use Rattle.hl_base.specs.declared.note.Note.{Note}
use Rattle.hl_base.specs.declared.place.Frame.{Frame}
use Rattle.note_rows.specs.Table.{line, noted}
use Rattle.note_rows.specs.declared.row.Row.TheVariants as row
use Rattle.trace_values.specs.declared.item.TraceItem.{TraceItem}
use Rattle.trace_arena.specs.Points.{Point}
use Rattle.asking_core.specs.Runs.{Ending, ByLeave, ByEnd, ByBudget}
use Rattle.program_assembly.specs.ColumnNotes.{column_notes, missing_end}
use Rattle.program_assembly.specs.Statements.{all_noted}

-- What the run of open code comes to: its points, how it ended, and the frames of the statement for which no unit of the
-- budget was left, those of the innermost call first.
pub record Ran : Type 0 where
  pub points : List (Point TraceItem)
  pub ended : Ending
  pub unpaid : List (List Frame)

-- a point stands in no nested call, and has the note of the branch limit
abbrev pub is_outer : List TraceItem → Bool
is_outer [] = true
is_outer (call ∷ calls) = false

abbrev pub has_code : (code : ℕ) → List Note → Bool
has_code code notes = list_any (λ note. note.code == code) notes

abbrev pub is_limited : Point TraceItem → Bool
is_limited point = is_outer point.calls && has_code (line row.BranchLimit).code point.item.notes

-- the branch limit ended open code: its last point has the note
abbrev pub ends_limited : List (Point TraceItem) → Bool
ends_limited [] = false
ends_limited (point ∷ []) = is_limited point
ends_limited (point ∷ next ∷ rest) = ends_limited (next ∷ rest)

-- the whole stack of the statement for which no unit was left
abbrev pub unpaid_stack : List (List Frame) → List Frame
unpaid_stack [] = []
unpaid_stack (inner ∷ outer) = unpaid_stack outer ++ inner

-- What is reported of the end: nothing where END was processed, that the budget was used up, or, by this note, that the text
-- ended without END, unless it was the branch limit that ended open code.
abbrev pub end_notes_by : Ending → (missing : Note) → Ran → List Note
end_notes_by ByEnd missing ran = []
end_notes_by ByBudget missing ran = noted row.BudgetUsedUp (unpaid_stack ran.unpaid) ∷ []
end_notes_by ByLeave missing ran = if ends_limited ran.points then [] else missing ∷ []

abbrev pub end_notes : (path : ℕ) (text : List ℕ) → Ran → List Note
end_notes path text ran = end_notes_by ran.ended (missing_end path text) ran

-- the notes: the column faults of the program's text, those of each point, in turn, and that of the end. A column fault of a
-- member is noted at each point of its statement. What layout says of a statement follows what its expansion says
abbrev pub notes_of : (path : ℕ) (text : List ℕ) → Ran → List Note
notes_of path text ran = column_notes path text ++ (all_noted path ran.points ++ end_notes path text ran)
