-- Lists of numbers as trees, so that texts and names are kept values. This project.
use Rattle.std.specs.Prelude.{ℕ, List, [], ◌∷◌, Bool, true, false, ℤ, pos, negsuc}
use Rattle.kept_values.specs.Trees.{Tree, Leaf, Fork}

-- the numbers in order, one below the other, and 0 behind the last
abbrev pub list_tree : List ℕ → Tree
list_tree [] = Leaf 0
list_tree (x ∷ xs) = Fork (Leaf x) (list_tree xs)

-- a bit as a number
abbrev pub bit_tree : Bool → Tree
bit_tree false = Leaf 0
bit_tree true = Leaf 1

-- an integer: its sign and its size
abbrev pub integer_tree : ℤ → Tree
integer_tree (pos n) = Fork (Leaf 0) (Leaf n)
integer_tree (negsuc n) = Fork (Leaf 1) (Leaf n)
