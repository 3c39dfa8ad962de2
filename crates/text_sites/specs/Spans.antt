-- Where columns of a line are shown (Language Server Protocol 3.17, "Position"): an editor counts UTF-16 units from 0. Of a line
-- the columns 1 to 71 are shown, those of statements (this project).
use Rattle.std.specs.Prelude.{ℕ, ◌-◌, List, min, take}
use Rattle.hl_base.specs.Texts.{units}
use Rattle.hl_base.specs.declared.edit.Position.{Position}
use Rattle.document_store.specs.Positions.{line_of}
use Rattle.lsp_messages.specs.declared.outgoing.Span.{Span}

-- how many columns of a line are shown
abbrev pub shown_columns : ℕ
shown_columns = 71

-- how wide what stands before a column of a line is in UTF-16 units, of the columns that are shown; columns count from 1
abbrev pub width_before : (line : List ℕ) → (column : ℕ) → ℕ
width_before line column = units (take (min (column - 1) shown_columns) line)

-- where a column of a line of a text begins
abbrev pub position_of : (text : List ℕ) → (line column : ℕ) → Position
position_of text line column = record { line = line; character = width_before (line_of text line) column }

-- from one column of a line of a text up to another
abbrev pub span_of : (text : List ℕ) → (line from to : ℕ) → Span
span_of text line from to = record { start = position_of text line from; end = position_of text line to }

-- the shown columns of a line of a text
abbrev pub line_span : (text : List ℕ) → (line : ℕ) → Span
line_span text line = span_of text line 1 72
