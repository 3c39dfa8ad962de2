-- The last place at which a number stands in a list. This project.
use Rattle.std.specs.Prelude.{ℕ, suc, ◌==◌, Bool, cond, Option, Some, None, List, [], ◌∷◌}

-- the place in the rest, one further on, or else the first place, where it is there
abbrev pub later_or : Option ℕ → Bool → Option ℕ
later_or (Some i) here = Some (suc i)
later_or None here = cond here (Some 0) None

-- the last place of a number
abbrev pub latest : ℕ → List ℕ → Option ℕ
latest q [] = None
latest q (n ∷ ns) = later_or (latest q ns) (n == q)
