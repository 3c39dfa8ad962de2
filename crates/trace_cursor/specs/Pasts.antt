-- The points of a node with what each of their calls had done before (this project).
use Rattle.std.specs.Prelude.{◌≡◌, ℕ, zero, suc, ◌<◌, length, List, [], ◌∷◌, ◌++◌, Option, Some, map, slice_get}
use Rattle.trace_arena.specs.declared.node.NodeId.{NodeId}
use Rattle.trace_arena.specs.Nodes.{Node, node_at, IsLive}
use Rattle.trace_arena.specs.Points.{Point, points}
use Rattle.trace_cursor.specs.declared.descent.ItemPlace.{ItemPlace}
use Rattle.trace_cursor.specs.Places.{Descends}

-- an item, and those of the same node that were appended before it
pub record Past (I : Type 0) : Type 0 where
  pub before : List I
  pub item : I

-- each of these items with those before it
abbrev pub pasts : {I : Type 0} → List I → List I → List (Past I)
pasts before [] = []
pasts before (i ∷ is) = record { before = before; item = i } ∷ pasts (before ++ i ∷ []) is

-- a node whose items know those before them
abbrev pub with_pasts : {I : Type 0} → Node I → Node (Past I)
with_pasts node = record {
  items = pasts [] node.items;
  links = node.links;
  owners = node.owners;
  height = node.height;
  total = node.total;
}

-- these nodes with items that know those before them: a point of such a node says what each of its calls had done
abbrev pub traced : {I : Type 0} → List (Node I) → List (Node (Past I))
traced nodes = map with_pasts nodes

-- the same point, without what came before its items
abbrev pub plain : {I : Type 0} → Point (Past I) → Point I
plain point = record { calls = map (λ p. p.item) point.calls; item = point.item.item }

-- the item of a place, with those before it
abbrev pub past_at : {I : Type 0} → List (Node I) → ItemPlace → Option (Past I)
past_at nodes place = slice_get (node_at (traced nodes) place.node.0).items place.at

-- there is an item at a place
pub record IsThere {I : Type 0} (nodes : List (Node I)) (place : ItemPlace) : Type 0 where
  pub live : IsLive nodes place.node.0
  pub inside : place.at < length (node_at nodes place.node.0).items

-- there is an item at each of these places
abbrev pub AreThere : {I : Type 0} → List (Node I) → List ItemPlace → Type 0
AreThere nodes places = (k : ℕ) (place : ItemPlace) → slice_get places k ≡ Some place → IsThere nodes place

-- where the item stands behind which a node is linked, if there is one
abbrev pub call_places : NodeId → ℕ → List ItemPlace
call_places node zero = []
call_places node (suc k) = record { node = node; at = k } ∷ []

-- These are the places of the items behind which the nodes of a point are linked, the outermost first, and then of its
-- own item.
pub record IsPath {I : Type 0} (nodes : List (Node I)) (root index : ℕ) (places : List ItemPlace) : Type 0 where
  pub point : Point (Past I)
  pub found : slice_get (points (traced nodes) root) index ≡ Some point
  pub same : map (past_at nodes) places ≡ map Some (point.calls ++ point.item ∷ [])

-- so the search has come down from the root to this node, past these places
pub record Follows {I : Type 0} (nodes : List (Node I)) (root index node rest : ℕ) (places : List ItemPlace) : Type 0 where
  pub descends : Descends (traced nodes) root index node rest
  pub same : map (past_at nodes) places ≡ map Some descends.calls
