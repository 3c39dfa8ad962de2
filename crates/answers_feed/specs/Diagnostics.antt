-- The list of diagnostics that an editor shows of a text (LSP 3.17, "PublishDiagnostics Notification"); its codes and
-- places are this project's.
use Rattle.std.specs.Prelude.{◌==◌, ◌/◌, ◌%◌, ℕ, List, [], ◌∷◌, ◌++◌, codes, drop, map, take, unwrap_or, if◌then◌else◌}
use Rattle.std.specs.Fmt.{decimal}
use Rattle.std.specs.Str.{chars}
use Rattle.hl_base.specs.declared.note.Note.{Note}
use Rattle.hl_base.specs.declared.note.Severity.{Severity}
use Rattle.hl_base.specs.declared.note.Severity.TheVariants.{Error, Warning, Information}
use Rattle.hl_base.specs.declared.place.Frame.{Frame}
use Rattle.hl_base.specs.declared.place.FrameKind.{FrameKind}
use Rattle.hl_base.specs.declared.place.FrameKind.TheVariants.{OpenCode, Macro, Copy}
use Rattle.lsp_messages.specs.declared.outgoing.Span.{Span}
use Rattle.lsp_messages.specs.declared.outgoing.Diagnostic.{Diagnostic}
use Rattle.lsp_messages.specs.declared.outgoing.Relation.{Relation}
use Rattle.note_rows.specs.Table.{is_at_start}
use Rattle.text_sites.specs.Sites.{Site}
use Rattle.text_sites.specs.Spans.{line_span}

-- the letter H and three digits
abbrev pub numbered : ℕ → List ℕ
numbered code = codes "H" ++ (decimal (code / 100 % 10) ++ (decimal (code / 10 % 10) ++ decimal (code % 10)))

-- the code of a note; what the author of the text says with MNOTE has no number
abbrev pub code_text : ℕ → List ℕ
code_text code = if code == 0 then codes "MNOTE" else numbered code

-- the line of the statement of open code
abbrev pub line_of : List Frame → ℕ
line_of [] = 0
line_of (frame ∷ inner) = frame.origin.line

-- where a line begins
abbrev pub line_start : (line : ℕ) → Span
line_start line = record { start = record { line = line; character = 0 }; end = record { line = line; character = 0 } }

-- Where a note is shown: columns 1 to 71 of the first line of its statement of open code; a missing END where the last
-- line begins.
abbrev pub span_of_note : (text : List ℕ) → Note → Span
span_of_note text note = if is_at_start note then line_start (line_of note.stack) else line_span text (line_of note.stack)

-- the number of a severity (LSP 3.17, `DiagnosticSeverity`)
abbrev pub severity_number : Severity → ℕ
severity_number Error = 1
severity_number Warning = 2
severity_number Information = 3

-- ---- related places

-- what a frame is of; open code is never within another frame
abbrev pub kind_text : FrameKind → List ℕ
kind_text OpenCode = codes "open code "
kind_text Macro = codes "macro "
kind_text Copy = codes "copy "

-- a frame in words: what it is of, and its name
abbrev pub frame_text : Frame → List ℕ
frame_text frame = kind_text frame.kind ++ unwrap_or frame.name []

-- a frame as the editor shows it: columns 1 to 71 of the first line of its statement, where it stands
abbrev pub relation_of : (ℕ → Site) → Frame → Relation
relation_of sites frame = record {
  uri = (sites frame.origin.path.0).uri;
  range = line_span (sites frame.origin.path.0).text frame.origin.line;
  message = chars (frame_text frame);
}

-- a note of a program as the editor shows it; the inner frames of its stack are related places, the outermost first
abbrev pub diagnostic_of_note : (program : ℕ) → (ℕ → Site) → Note → Diagnostic
diagnostic_of_note program sites note = record {
  code = chars (code_text note.code);
  message = note.text;
  range = span_of_note (sites program).text note;
  severity = severity_number note.severity;
  related = map (relation_of sites) (drop 1 note.stack);
}

-- at most so many notes of a document are sent
abbrev pub most_published : ℕ
most_published = 1000

-- the diagnostics of these notes of a program
unfoldable pub published : (program : ℕ) → (ℕ → Site) → List Note → List Diagnostic
published program sites notes = map (diagnostic_of_note program sites) (take most_published notes)
