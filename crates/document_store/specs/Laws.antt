-- Columns and positions give each other back, for every text (this project).
use Rattle.std.specs.Prelude.{◌≡◌, ℕ, ◌+◌, ◌<◌, ◌≤◌, List, length, take}
use Rattle.hl_base.specs.Texts.{lines, units}
use Rattle.hl_base.specs.declared.edit.Position.{Position}
use Rattle.document_store.specs.Positions.{line_of, place_of, column_of, position_of, position_at, spot_of, spot_of_column}

-- the column of the position of a column is that column, where the text has its line and the line has it: from 1, and to
-- the one behind the line's last character
abbrev pub ColumnIsFoundAgain : Type 0
ColumnIsFoundAgain = (text : List ℕ) (line column : ℕ) → line < length (lines text) → 0 < column → column ≤ length (line_of text line) + 1 →
    column_of text (position_of text line column) ≡ (line, column)

-- of any other column it is the column of the place where that column lies
abbrev pub ColumnIsRounded : Type 0
ColumnIsRounded = (text : List ℕ) (line column : ℕ) →
    let spot = spot_of_column text line column in column_of text (position_of text line column) ≡ (spot.line, spot.before + 1)

-- the position of the column of a position is that position, where it lies at the start of a character of its line or at
-- the line's end: so many characters of the line are as wide as its unit says
abbrev pub PositionIsFoundAgain : Type 0
PositionIsFoundAgain = (text : List ℕ) (at : Position) (before : ℕ) → at.line < length (lines text) → before ≤ length (line_of text at.line) →
    at.character ≡ units (take before (line_of text at.line)) →
    let column = column_of text at in position_of text column.0 column.1 ≡ at

-- of any other position it is the position of the place where that position lies
abbrev pub PositionIsRounded : Type 0
PositionIsRounded = (text : List ℕ) (at : Position) → let column = column_of text at in position_of text column.0 column.1 ≡ position_at text (spot_of text at)

-- and so it lies in the same place of the text
abbrev pub PlaceStands : Type 0
PlaceStands = (text : List ℕ) (at : Position) → let column = column_of text at in place_of text (position_of text column.0 column.1) ≡ place_of text at
