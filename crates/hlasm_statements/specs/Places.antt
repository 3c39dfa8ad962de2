-- The places of the characters of a field, kept as runs of columns in a line. This project.
use Rattle.std.specs.Prelude.{ℕ, ◌+◌, ◌-◌, zero, suc, List, [], ◌∷◌, ◌++◌, flat_map}
use Rattle.hlasm_statements.specs.declared.run.Run.{Run}

-- so many places side by side in a line, from a column on
abbrev pub side_by_side : (line column count : ℕ) → List (ℕ × ℕ)
side_by_side line column zero = []
side_by_side line column (suc count) = (line, column) ∷ side_by_side line (column + 1) count

-- the places of a run
abbrev pub run_places : Run → List (ℕ × ℕ)
run_places run = side_by_side run.line run.from (run.to - run.from)

-- the places of some runs and of the last one
abbrev pub places_in : List Run → Run → List (ℕ × ℕ)
places_in full last = flat_map run_places full ++ run_places last
