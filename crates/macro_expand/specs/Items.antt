-- What is kept of a point, and the frames of a call (this project).
use Rattle.std.specs.Prelude.{ℕ, ◌==◌, ◌&&◌, Bool, List, [], ◌∷◌, ◌++◌, length, map, Option, Some, None, option_map, if◌then◌else◌}
use Rattle.hl_base.specs.declared.note.Note.{Note}
use Rattle.hl_base.specs.declared.place.Frame.{Frame}
use Rattle.note_rows.specs.Table.{noted}
use Rattle.note_rows.specs.declared.row.Row.{Row}
use Rattle.note_rows.specs.declared.row.Row.TheVariants as row
use Rattle.hlasm_statements.specs.declared.fault.ColumnFault.{ColumnFault}
use Rattle.hlasm_statements.specs.declared.fault.ColumnFault.TheVariants.{MarginText, SurplusLines, MissingLine}
use Rattle.trace_values.specs.CallFrames.{frames_of}
use Rattle.trace_values.specs.declared.item.TraceItem.{TraceItem}
use Rattle.trace_values.specs.declared.variable.Setting.{Setting}
use Rattle.plain_expansion.specs.Language.{Level, Stack, Point, Fault, NoFault, NoLabel, NoBranchLeft, NoRoom}
use Rattle.macro_expand.specs.Passages.{Passage, call_frames, faults_at}
use Rattle.macro_expand.specs.Acts.{words}

-- what is reported of a fault of columns
abbrev pub column_row : ColumnFault → Row
column_row MarginText = row.MarginText
column_row SurplusLines = row.SurplusLines
column_row MissingLine = row.MissingLine

abbrev pub column_note : ColumnFault → Note
column_note fault = noted (column_row fault) []

-- the column faults of the statement at a place, in the order of their codes
abbrev pub column_notes : Passage → (place : ℕ) → List Note
column_notes passage place = map column_note (faults_at passage place)

-- what is reported of a fault, of a statement that may branch to this sequence symbol
abbrev pub fault_row : Fault → (target : Option (List ℕ)) → Option Row
fault_row NoFault target = None
fault_row NoLabel target = option_map row.NoSequenceSymbol target
fault_row NoBranchLeft target = Some row.BranchLimit
fault_row NoRoom target = Some row.NestedTooDeep

abbrev pub notes_of : Option Row → List Note
notes_of None = []
notes_of (Some row) = noted row [] ∷ []

-- a call is at the first statement of its own list
abbrev pub is_first : Stack words → Bool
is_first stack = (stack.here.position == 0) && (length stack.below == 0)

-- What a point shows of the entry of its call: what its first statement shows, at that statement. A call comes back to it only by a
-- branch, behind which nothing is shown: so the first point of a call shows it, and no other.
abbrev pub entry_of : Stack words → List Setting
entry_of stack = if is_first stack then stack.known.shown else []

-- a point, with the column faults of its statement first and the notes of its fault last
abbrev pub item_of : Point words → TraceItem
item_of point = record {
  frames = call_frames point.stack.here.listing point.stack.here.position;
  definition = point.stack.here.listing.definition;
  called = point.said.called;
  entry = entry_of point.stack;
  locals = point.said.locals;
  declared = point.said.declared;
  globals = point.said.globals;
  line = point.said.line;
  notes =
      column_notes point.stack.here.listing point.stack.here.position
      ++ (point.said.notes ++ notes_of (fault_row point.fault point.said.target));
}

-- the frames of a call, outermost first, where its lists stand at these statements, innermost first: the innermost list has
-- those round it
abbrev pub frames_at : List (Level words) → List Frame
frames_at [] = []
frames_at (here ∷ below) = frames_of (call_frames here.listing here.position)
