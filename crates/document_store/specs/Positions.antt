-- Where a position lies in a text (Language Server Protocol 3.17, "Position"): its line counted from 0, and its place in
-- the line counted from 0 in UTF-16 units. Columns count from 1 in characters.
use Rattle.std.specs.Prelude.{ℕ, suc, ◌+◌, ◌-◌, Bool, ◌==◌, ◌||◌, ◌&&◌, not, List, [], ◌∷◌, Option, None, Some, length, take, nat_lt, slice_get, slice_index_or, if◌then◌else◌}
use Rattle.std.specs.List.{concat, onto_first}
use Rattle.hl_base.specs.Texts.{lines, begins_crlf, unit_width, units}
use Rattle.hl_base.specs.declared.edit.Position.{Position}

-- whether a line ends behind this character: a LF, or a CR that no LF follows
abbrev pub ends_line : ℕ → List ℕ → Bool
ends_line c rest = (c == 10 || c == 13) && not (begins_crlf c rest)

-- the lines of a text, each with its end
abbrev pub whole_lines : List ℕ → List (List ℕ)
whole_lines [] = [] ∷ []
whole_lines (c ∷ rest) = if ends_line c rest then (c ∷ []) ∷ whole_lines rest else onto_first c (whole_lines rest)

-- how many characters of a text stand before a line
abbrev pub line_start : List ℕ → ℕ → ℕ
line_start text line = length (concat (take line (whole_lines text)))

-- how many characters of a line stand before a unit of it: a unit within a character is the start of that character, and
-- a unit past the line's end is that end
abbrev pub characters_before : ℕ → List ℕ → ℕ
characters_before unit [] = 0
characters_before unit (c ∷ rest) = if nat_lt unit (unit_width c) then 0 else suc (characters_before (unit - unit_width c) rest)

-- a line of a text; empty past the last
abbrev pub line_of : List ℕ → ℕ → List ℕ
line_of text line = slice_index_or (lines text) line []

-- the number of the last line
abbrev pub last_line : List ℕ → ℕ
last_line text = length (lines text) - 1

-- a place in a text: a line, and how many characters of it stand before the place
pub record Spot : Type 0 where
  pub line : ℕ
  pub before : ℕ

-- the end of a text
abbrev pub end_of : List ℕ → Spot
end_of text = record { line = last_line text; before = length (line_of text (last_line text)) }

abbrev spot_in : List ℕ → Position → Option (List ℕ) → Spot
spot_in text at (Some line) = record { line = at.line; before = characters_before at.character line }
spot_in text at None = end_of text

-- where a position lies: in its line before its unit, and at the end of the text where it has no such line
abbrev pub spot_of : List ℕ → Position → Spot
spot_of text at = spot_in text at (slice_get (lines text) at.line)

-- how many characters of a text stand before a position
abbrev pub place_of : List ℕ → Position → ℕ
place_of text at = let spot = spot_of text at in line_start text spot.line + spot.before

-- the line and the column of a position
abbrev pub column_of : List ℕ → Position → ℕ × ℕ
column_of text at = let spot = spot_of text at in (spot.line, spot.before + 1)

abbrev column_in : List ℕ → ℕ → ℕ → Option (List ℕ) → Spot
column_in text line column (Some characters) = record { line = line; before = length (take (column - 1) characters) }
column_in text line column None = end_of text

-- where a column lies: in its line, where column 0 is column 1 and a column past the line's end is that end, and at the
-- end of the text where there is no such line
abbrev pub spot_of_column : List ℕ → ℕ → ℕ → Spot
spot_of_column text line column = column_in text line column (slice_get (lines text) line)

-- the position of a place
abbrev pub position_at : List ℕ → Spot → Position
position_at text spot = record { line = spot.line; character = units (take spot.before (line_of text spot.line)) }

-- the position of a column
abbrev pub position_of : List ℕ → ℕ → ℕ → Position
position_of text line column = position_at text (spot_of_column text line column)
