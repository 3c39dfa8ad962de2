-- What was put, as pairs of trees. This project.
use Rattle.std.specs.Prelude.{◌≡◌, List, [], ◌∷◌, ◌++◌, is_some}
use Rattle.kept_values.specs.Trees.{Tree, Pair, look_up}

-- a list from its end
abbrev pub newest_first : List Pair → List Pair
newest_first [] = []
newest_first (p ∷ ps) = newest_first ps ++ p ∷ []

-- both lists have the same keys
abbrev pub HaveOneKeys : List Pair → List Pair → Type 0
HaveOneKeys ps qs = (key : Tree) → is_some (look_up ps key) ≡ is_some (look_up qs key)
