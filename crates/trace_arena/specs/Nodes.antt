-- Nodes under numbers: what each holds, who owns it, and which are reached (this project).
use Rattle.std.specs.Prelude.{◌≡◌, ℕ, ◌+◌, ◌-◌, ◌<◌, ◌==◌, if◌then◌else◌, List, [], ◌∷◌, ◌++◌, length, map, max, slice_index_or}
use Rattle.trace_arena.specs.declared.node.Link.{Link}
use Rattle.trace_arena.specs.declared.node.NodeId.{NodeId}

-- what is held under a number: the items that were appended, the links to other nodes in their order, how many own it
-- (its maker, those who retained it, and links), a height above that of every node that it links, and its number of
-- points
pub record Node (I : Type 0) : Type 0 where
  pub items : List I
  pub links : List Link
  pub owners : ℕ
  pub height : ℕ
  pub total : ℕ

-- what stands under a number that is not in use
abbrev pub free_node : {I : Type 0} → Node I
free_node = record { items = []; links = []; owners = 0; height = 0; total = 0 }

-- a node that was just made
abbrev pub new_node : {I : Type 0} → Node I
new_node = record { items = []; links = []; owners = 1; height = 1; total = 0 }

-- a node with one item more at its end
abbrev pub with_item : {I : Type 0} → Node I → I → Node I
with_item node item = record node { items = node.items ++ item ∷ []; total = node.total + 1 }

-- a node with one link more at its end, to a node of this height and so many points
abbrev pub with_link : {I : Type 0} → Node I → NodeId → ℕ → ℕ → Node I
with_link node child height more = record node {
  links = node.links ++ record { at = length node.items; before = node.total; child = child } ∷ [];
  height = max node.height (height + 1);
  total = node.total + more;
}

-- a node with so many owners
abbrev pub with_owners : {I : Type 0} → Node I → ℕ → Node I
with_owners node owners = record node { owners = owners }

-- a node with these links
abbrev pub with_links : {I : Type 0} → Node I → List Link → Node I
with_links node links = record node { links = links }

-- an arena: the nodes by their numbers, and how many items were ever appended, or the greatest u64 once that is reached
pub record Arena (I : Type 0) : Type 0 where
  pub nodes : List (Node I)
  pub made : ℕ

-- the node of a number
abbrev pub node_at : {I : Type 0} → List (Node I) → ℕ → Node I
node_at nodes x = slice_index_or nodes x free_node

-- how many of these links lead to a node
abbrev pub leads : ℕ → List Link → ℕ
leads x [] = 0
leads x (l ∷ ls) = (if l.child.0 == x then 1 else 0) + leads x ls

-- how many links lead to a node in all
abbrev pub parents : {I : Type 0} → List (Node I) → ℕ → ℕ
parents [] x = 0
parents (n ∷ ns) x = leads x n.links + parents ns x

-- how many own a node otherwise than by a link: its maker, and those who retained it
abbrev pub outside : {I : Type 0} → List (Node I) → ℕ → ℕ
outside nodes x = (node_at nodes x).owners - parents nodes x

-- a node is live as long as it has an owner
abbrev pub IsLive : {I : Type 0} → List (Node I) → ℕ → Type 0
IsLive nodes x = 0 < (node_at nodes x).owners

-- only its maker owns the node, and no link leads to it
pub record IsUnshared {I : Type 0} (nodes : List (Node I)) (x : ℕ) : Type 0 where
  pub maker : (node_at nodes x).owners ≡ 1
  pub no_parent : parents nodes x ≡ 0

-- a link of the first node leads to the second
abbrev pub IsLinked : {I : Type 0} → List (Node I) → ℕ → ℕ → Type 0
IsLinked nodes y x = 0 < leads x (node_at nodes y).links

-- a node is reached if somebody owns it from outside (`owned` counts these), or a reached node links it
pub data IsReached {I : Type 0} (nodes : List (Node I)) (owned : ℕ → ℕ) : ℕ → Type 0 where
  from_outside : (x : ℕ) → 0 < owned x → IsReached nodes owned x
  by_link : (y x : ℕ) → IsReached nodes owned y → IsLinked nodes y x → IsReached nodes owned x

-- the nodes that a node links, in the order of its links
abbrev pub children : {I : Type 0} → List (Node I) → ℕ → List ℕ
children nodes x = map (λ l. l.child.0) (node_at nodes x).links
