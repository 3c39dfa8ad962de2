-- The columns of lines, the statements that lines make up, and what a statement reads of them.
-- HLASM Language Reference SC26-4940, "Assembler language coding conventions": columns count characters from 1,
-- text stands in columns 1 to 71, a mark in column 72 continues, and a continuation's text begins in column 16.
use Rattle.std.specs.Prelude.{ℕ, ◌+◌, Bool, not, ◌||◌, ◌==◌, List, [], ◌∷◌, ◌++◌, take, drop, map, if◌then◌else◌, slice_index_or}
use Rattle.std.specs.List.{onto_first}

-- a blank or a tab
abbrev pub is_blank : ℕ → Bool
is_blank c = (c == 32) || (c == 9)

abbrev pub is_ink : ℕ → Bool
is_ink c = not (is_blank c)

-- whether column 72 has a character other than a blank: the next line, if there is one, goes on
abbrev pub is_marked : List ℕ → Bool
is_marked line = is_ink (slice_index_or line 71 32)

-- the lines of each statement: a line that continues none, with those that continue it in turn, where a line goes on
-- in the next one exactly where it is marked
abbrev pub groups : List (List ℕ) → List (List (List ℕ))
groups [] = []
groups (line ∷ rest) = if is_marked line then onto_first line (groups rest) else ((line ∷ []) ∷ groups rest)

-- columns 1 to 71 of a line
abbrev pub body_of : List ℕ → List ℕ
body_of line = take 71 line

-- a character with the line, from 0, and the column, from 1, in which it stands
pub record Placed : Type 0 where
  pub char : ℕ
  pub line : ℕ
  pub column : ℕ

-- characters side by side in a line, from a column on
abbrev pub placed : ℕ → ℕ → List ℕ → List Placed
placed line column [] = []
placed line column (c ∷ rest) = record { char = c; line = line; column = column } ∷ placed line (column + 1) rest

-- what continuation lines add: columns 16 to 71 of each
abbrev pub continued : ℕ → List (List ℕ) → List Placed
continued number [] = []
continued number (body ∷ rest) = placed number 16 (drop 15 body) ++ continued (number + 1) rest

-- the source of a statement whose lines have these columns 1 to 71, the first of them with this number: all of the first,
-- and columns 16 to 71 of as many of the next as are read
abbrev pub source_of : (read number : ℕ) → List (List ℕ) → List Placed
source_of read number [] = []
source_of read number (body ∷ rest) = placed number 1 body ++ continued (number + 1) (take read rest)

-- the characters without their places
abbrev pub text_of : List Placed → List ℕ
text_of source = map (λ p. p.char) source

-- the places without the characters: line and column
abbrev pub places_of : List Placed → List (ℕ × ℕ)
places_of source = map (λ p. (p.line, p.column)) source
