-- What a node means: a list of points (this project).
use Rattle.std.specs.Prelude.{ℕ, zero, suc, ◌-◌, List, [], ◌∷◌, ◌++◌, map, take, drop}
use Rattle.trace_arena.specs.declared.node.Link.{Link}
use Rattle.trace_arena.specs.Nodes.{Node, node_at}

-- a point: an item, and the items behind which the nodes that it stands in were linked, the outermost first
pub record Point (I : Type 0) : Type 0 where
  pub calls : List I
  pub item : I

-- an item of the node itself
abbrev pub own : {I : Type 0} → I → Point I
own item = record { calls = []; item = item }

-- a point of a node that was linked behind these items
abbrev pub within : {I : Type 0} → List I → Point I → Point I
within calls point = record { calls = calls ++ point.calls; item = point.item }

-- the last of the items that stand before a place, and none at the first place
abbrev pub last_before : {I : Type 0} → ℕ → List I → List I
last_before at items = drop (at - 1) (take at items)

-- the items from a place on, with the points of each linked node at the place of its link
unfoldable pub weave : {I : Type 0} → (ℕ → List (Point I)) → ℕ → List I → List Link → List (Point I)
weave points_of from items [] = map own (drop from items)
weave points_of from items (l ∷ ls) =
    map own (take (l.at - from) (drop from items))
    ++ (map (within (last_before l.at items)) (points_of l.child.0) ++ weave points_of l.at items ls)

-- the points of a node as far down as so many links
unfoldable pub points_to : {I : Type 0} → ℕ → List (Node I) → ℕ → List (Point I)
points_to zero nodes x = []
points_to (suc depth) nodes x = weave (points_to depth nodes) 0 (node_at nodes x).items (node_at nodes x).links

-- the points of a node: a node that it links has a lesser height, so its height is as far down as links lead
unfoldable pub points : {I : Type 0} → List (Node I) → ℕ → List (Point I)
points nodes x = points_to (suc (node_at nodes x).height) nodes x
