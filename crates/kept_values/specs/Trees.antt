-- What a kept value means, as a tree of numbers: two kept values mean one thing exactly where their trees are one.
-- This project.
use Rattle.std.specs.Prelude.{ℕ, ◌+◌, ◌*◌, ◌%◌, ◌^◌, ◌==◌, ◌&&◌, Bool, false, List, [], ◌∷◌, Option, Some, None, if◌then◌else◌}

-- a number, or two trees one after the other
pub data Tree : Type 0 where
  Leaf : (number : ℕ) → Tree
  Fork : (left right : Tree) → Tree

-- whether two trees are one
abbrev pub same_tree : Tree → Tree → Bool
same_tree (Leaf m) (Leaf n) = m == n
same_tree (Leaf m) (Fork c d) = false
same_tree (Fork a b) (Leaf n) = false
same_tree (Fork a b) (Fork c d) = same_tree a c && same_tree b d

-- one key and its value
pub record Pair : Type 0 where
  pub key : Tree
  pub value : Tree

-- the value of the first pair with a key
abbrev pub look_up : List Pair → Tree → Option Tree
look_up [] key = None
look_up (p ∷ ps) key = if same_tree p.key key then Some p.value else look_up ps key

-- what one more number makes of the number of what stands before it, in 64 bits (FNV's factor)
abbrev pub mixed : ℕ → ℕ → ℕ
mixed start n = ((start * 1099511628211) % 2 ^ 64 + n) % 2 ^ 64

-- the number of a tree, behind what stands before it: its leaves from left to right
abbrev pub number_from : ℕ → Tree → ℕ
number_from start (Leaf n) = mixed start n
number_from start (Fork a b) = number_from (number_from start a) b

-- the number of a tree, by which equal ones are found
abbrev pub tree_number : Tree → ℕ
tree_number tree = number_from 0 tree
