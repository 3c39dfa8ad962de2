-- Where a name stands in the text. HLASM Language Reference SC26-4940, "Assembler language coding conventions": text stands in
-- columns 1 to 71; that a name does not go on in the next line is this project's.
use Rattle.std.specs.Prelude.{◌≡◌, ◌<◌, ℕ, ◌+◌, length, min, slice_index_or}
use Rattle.hlasm_statements.specs.Statements.{places}
use Rattle.hlasm_statements.specs.declared.statement.Statement.{Statement}
use Rattle.statement_names.specs.declared.name.WrittenName.{WrittenName}
use Rattle.statement_names.specs.declared.spans.Span.{Span}

-- the column behind the last one that has text
abbrev pub margin : ℕ
margin = 72

-- what begins at a line and a column and has so many characters; it ends with the columns that have text
abbrev pub span : ℕ × ℕ → (count : ℕ) → Span
span place count = record { line = place.0; from = place.1; to = min (place.1 + count) margin }

-- a name stands where its first character does
abbrev pub IsSpan : Statement → WrittenName → Span → Type 0
IsSpan statement name found = (place : ℕ × ℕ) → place ≡ slice_index_or (places statement name.field) name.at place → found ≡ span place name.count
