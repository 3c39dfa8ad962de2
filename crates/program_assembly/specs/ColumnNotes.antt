-- What is noted of the columns of a program's text, statement by statement (this project).
use Rattle.std.specs.Prelude.{◌-◌, ℕ, List, [], ◌∷◌, length, map, None}
use Rattle.std.specs.List.{flat_map}
use Rattle.hl_base.specs.Texts.{lines}
use Rattle.hl_base.specs.declared.note.Note.{Note}
use Rattle.hl_base.specs.declared.place.Frame.{Frame}
use Rattle.hl_base.specs.declared.place.FrameKind.TheVariants.{OpenCode}
use Rattle.hlasm_statements.specs.declared.fault.ColumnFault.{ColumnFault}
use Rattle.hlasm_statements.specs.declared.statement.Statement.{Statement}
use Rattle.hlasm_statements.specs.Statements.{statements_of}
use Rattle.macro_expand.specs.Items.{column_row}
use Rattle.note_rows.specs.Table.{noted}
use Rattle.note_rows.specs.declared.row.Row.{Row}
use Rattle.note_rows.specs.declared.row.Row.TheVariants as row

-- the statement of open code that begins in a line of the file of a path
abbrev pub open_code_at : (path line : ℕ) → Frame
open_code_at path line = record { kind = OpenCode; name = None; origin = record { path = record { 0 = path }; line = line } }

-- a note of that statement
abbrev pub note_at : (path line : ℕ) → Row → Note
note_at path line row = noted row (open_code_at path line ∷ [])

-- a column fault of the statement that begins in this line
abbrev pub fault_note : (path line : ℕ) → ColumnFault → Note
fault_note path line fault = note_at path line (column_row fault)

-- the column faults of a statement, in the order of their codes
abbrev pub fault_notes : (path : ℕ) → Statement → List Note
fault_notes path statement = map (fault_note path statement.first) statement.faults

-- the column faults of a program's text: of each of its statements, whether it is processed or not
abbrev pub column_notes : (path : ℕ) (text : List ℕ) → List Note
column_notes path text = flat_map (fault_notes path) (statements_of text)

-- that the text ended without END, at its last line
abbrev pub missing_end : (path : ℕ) (text : List ℕ) → Note
missing_end path text = note_at path (length (lines text) - 1) row.MissingEnd
