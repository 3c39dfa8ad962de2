-- Where the points of a node have their items (this project).
use Rattle.std.specs.Prelude.{◌≡◌, ℕ, zero, suc, ◌+◌, ◌-◌, ◌<◌, ◌≤◌, List, [], ◌∷◌, length, slice_get, slice_index_or}
use Rattle.std.specs.Option.{option_map}
use Rattle.trace_arena.specs.declared.node.Link.{Link}
use Rattle.trace_values.specs.declared.item.TraceItem.{TraceItem}
use Rattle.trace_arena.specs.Nodes.{Node, node_at, IsLive, IsLinked}
use Rattle.trace_arena.specs.Points.{Point, within, last_before, points}
use Rattle.trace_cursor.specs.Stacks.{frames_in, counted, IsBelow}
use Rattle.trace_cursor.specs.declared.cursor.Cursor.{Cursor}
use Rattle.trace_cursor.specs.declared.search.Place.{Place}

abbrev pub no_link : Link
no_link = record { at = 0; before = 0; child = record { 0 = 0 } }

abbrev pub link_at : List Link → ℕ → Link
link_at links k = slice_index_or links k no_link

-- how many points a node has, by what it counts
abbrev pub totals : {I : Type 0} → List (Node I) → ℕ → ℕ
totals nodes x = (node_at nodes x).total

-- so many links, and no others, have at most so many points before them, if they stand in their order
pub record Counts (links : List Link) (rest count : ℕ) : Type 0 where
  pub within : count ≤ length links
  pub last : 0 < count → (link_at links (count - 1)).before ≤ rest
  pub next : count < length links → rest < (link_at links count).before

-- how many of the items stand before those that come behind so many links, and how many before the next link
abbrev pub gap_start : ℕ → List Link → ℕ → ℕ
gap_start from [] count = from
gap_start from (l ∷ ls) zero = from
gap_start from (l ∷ ls) (suc count) = gap_start l.at ls count

abbrev pub gap_stop : ℕ → List Link → ℕ → ℕ
gap_stop end [] count = end
gap_stop end (l ∷ ls) zero = l.at
gap_stop end (l ∷ ls) (suc count) = gap_stop end ls count

-- how many points stand before these items
abbrev pub gap_before : (ℕ → ℕ) → ℕ → List Link → ℕ → ℕ
gap_before total before [] count = before
gap_before total before (l ∷ ls) zero = before
gap_before total before (l ∷ ls) (suc count) = gap_before total (l.before + total l.child.0) ls count

-- a point of an item behind those that called
abbrev pub called : {I : Type 0} → List I → I → Point I
called calls item = record { calls = calls; item = item }

-- The cursor stands at the point of its index: the item `at` of its node is that point's, and up to `stop` the items of
-- the node are those of the points that follow. They stand behind the same calls; it counts these and their frames.
pub record StandsAt (nodes : List (Node TraceItem)) (c : Cursor) : Type 0 where
  pub calls : List TraceItem
  pub outer : c.outer ≡ counted (length (frames_in calls))
  pub level : c.calls ≡ length calls
  pub below : IsBelow nodes c.root.0 c.node.0
  pub live : IsLive nodes c.node.0
  pub inside : c.at < c.stop
  pub ends : c.stop ≤ length (node_at nodes c.node.0).items
  pub room : c.index + (c.stop - c.at) ≤ length (points nodes c.root.0)
  pub run : (k : ℕ) → c.at + k < c.stop →
      slice_get (points nodes c.root.0) (c.index + k) ≡ option_map (called calls) (slice_get (node_at nodes c.node.0).items (c.at + k))

-- the points of a node are points of the root, from `index - rest` on, each behind these calls
pub record Descends {I : Type 0} (nodes : List (Node I)) (root index node rest : ℕ) : Type 0 where
  pub calls : List I
  pub live : IsLive nodes node
  pub inside : rest < (node_at nodes node).total
  pub before : rest ≤ index
  pub room : (index - rest) + (node_at nodes node).total ≤ length (points nodes root)
  pub run : (k : ℕ) → k < (node_at nodes node).total →
      slice_get (points nodes root) ((index - rest) + k) ≡ option_map (within calls) (slice_get (points nodes node) k)

-- the points of a child are points of the node, from `rest - left` on, behind the last of so many items
pub record Enters {I : Type 0} (nodes : List (Node I)) (node rest child left at : ℕ) : Type 0 where
  pub descends : Descends nodes node rest child left
  pub behind : descends.calls ≡ last_before at (node_at nodes node).items
  pub within_items : at ≤ length (node_at nodes node).items
  pub past_items : left + at ≤ rest
  pub linked : IsLinked nodes node child
  pub lower : (node_at nodes child).height < (node_at nodes node).height

-- so the search has come down from the root to this node, past so many frames and calls, each of which is a point before
pub record Comes (nodes : List (Node TraceItem)) (root index node rest outer calls : ℕ) : Type 0 where
  pub descends : Descends nodes root index node rest
  pub below : IsBelow nodes root node
  pub counts : outer ≡ counted (length (frames_in descends.calls))
  pub level : calls ≡ length descends.calls
  pub before : calls + rest ≤ index

-- The point is of an item of the node itself, and up to `stop` so are those that follow.
pub record Owns {I : Type 0} (nodes : List (Node I)) (node rest at stop : ℕ) : Type 0 where
  pub inside : at < stop
  pub ends : stop ≤ length (node_at nodes node).items
  pub room : rest + (stop - at) ≤ (node_at nodes node).total
  pub run : (k : ℕ) → at + k < stop →
      slice_get (points nodes node) (rest + k) ≡ option_map (called []) (slice_get (node_at nodes node).items (at + k))

-- the point is one of the child of link `k`: its number there, and how many items stand before the link
pub record IsChild (total : ℕ → ℕ) (links : List Link) (rest child left at : ℕ) : Type 0 where
  pub k : ℕ
  pub is_link : k < length links
  pub low : (link_at links k).before ≤ rest
  pub small : left < total child
  pub child_is : child ≡ (link_at links k).child.0
  pub left_is : left ≡ rest - (link_at links k).before
  pub at_is : at ≡ (link_at links k).at

-- the point is of an item behind so many links and their points, and the items behind it go up to the next link
pub record IsOwn (total : ℕ → ℕ) (links : List Link) (end rest at stop : ℕ) : Type 0 where
  pub count : ℕ
  pub counts : Counts links rest count
  pub behind : gap_before total 0 links count ≤ rest
  pub at_is : at ≡ gap_start 0 links count + (rest - gap_before total 0 links count)
  pub stop_is : stop ≡ gap_stop end links count

abbrev pub PlaceIs : (ℕ → ℕ) → List Link → ℕ → ℕ → Place → Type 0
PlaceIs total links end rest (Place.Inside inner) = IsChild total links rest inner.child.0 inner.left inner.at
PlaceIs total links end rest (Place.Own run) = IsOwn total links end rest run.at run.stop

-- where a point of a node stands, by the node's links and the numbers of points
abbrev pub IsPlace : {I : Type 0} → List (Node I) → ℕ → ℕ → Place → Type 0
IsPlace nodes node rest place =
    PlaceIs (totals nodes) (node_at nodes node).links (length (node_at nodes node).items) rest place
