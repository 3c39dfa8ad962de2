-- Names in the order of their bytes (this project).
use Rattle.std.specs.Prelude.{ℕ, Bool, List, [], ◌∷◌, if◌then◌else◌}
use Rattle.std.specs.Ordering.{is_lt, nat_cmp}
use Rattle.std.specs.Cmp.Lexicographic.{slice_cmp}

-- whether a name comes before another
abbrev pub before : List ℕ → List ℕ → Bool
before name other = is_lt (slice_cmp nat_cmp name other)

-- a name among names in order: in front of the first that does not come before it
abbrev pub placed : List ℕ → List (List ℕ) → List (List ℕ)
placed name [] = name ∷ []
placed name (first ∷ rest) = if before first name then first ∷ placed name rest else name ∷ first ∷ rest

-- the names in order; equal ones stand side by side, as often as they are given
abbrev pub in_order : List (List ℕ) → List (List ℕ)
in_order [] = []
in_order (name ∷ names) = placed name (in_order names)
