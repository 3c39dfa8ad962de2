-- Which pool texts and lengths are. This project.
use Rattle.std.specs.Prelude.{ℕ, List, [], ◌∷◌, map, string_bytes}
use Rattle.std.specs.declared.string.String.{String}
use Rattle.std.specs.declared.alloc.Global.{Global}
use Rattle.literal_pools.specs.Pools.{Pool}

-- literals of these texts and lengths
abbrev pub joined : List (List ℕ) → List ℕ → Pool
joined [] ns = []
joined (text ∷ texts) [] = []
joined (text ∷ texts) (n ∷ ns) = record { text = text; length = n } ∷ joined texts ns

-- the texts that keys spell
abbrev pub spelled : List (String Global) → List (List ℕ)
spelled keys = map string_bytes keys
