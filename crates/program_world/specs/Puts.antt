-- What was put, as it is kept. No public clause cites this file. This project.
use Rattle.std.specs.Prelude.{◌≡◌, ℕ, zero, suc, true, false, List, [], ◌∷◌, Option, Some, None, ◌==◌, if◌then◌else◌}
use Rattle.std.specs.HashMap.{get}
use Rattle.std.specs.Option.{option_map_or}
use Rattle.kept_values.specs.Trees.{Tree, Pair, look_up, same_tree, tree_number}
use Rattle.kept_values.specs.Keys.{key_tree}
use Rattle.asking_core.specs.Places.{pairs_of}
use Rattle.call_sites.specs.Values.{known_tree}
use Rattle.program_world.specs.declared.puts.Puts.{Puts}

-- what was put for a key: the value of its pair among those of its number
abbrev pub held_in : {V : Type 0} → (at : ℕ → Option V) → (V → List Pair) → Tree → Option Tree
held_in at pairs key = look_up (option_map_or pairs (at (tree_number key)) []) key

abbrev pub held_by : Puts → Tree → Option Tree
held_by puts = held_in (get (λ a b. a == b) puts.by_number) (λ found. pairs_of key_tree known_tree found.items)

-- pairs in which a key has this value now, and every other key what it had
abbrev pub IsPut : List Pair → List Pair → Tree → Tree → Type 0
IsPut old new key value = (other : Tree) → look_up new other ≡ (if same_tree key other then Some value else look_up old other)

-- the first pair with a key stands at this place
abbrev pub IsPlace : List Pair → Tree → ℕ → Type 0
IsPlace [] key n = ⊥
IsPlace (p ∷ ps) key zero = same_tree p.key key ≡ true
IsPlace (p ∷ ps) key (suc n) = (same_tree p.key key ≡ false) × IsPlace ps key n

-- a search finds the place of a key exactly where it is there
abbrev pub Finds : List Pair → Tree → Option ℕ → Type 0
Finds pairs key None = look_up pairs key ≡ None
Finds pairs key (Some place) = IsPlace pairs key place
