-- What the calls of an arena leave of a cursor (this project).
use Rattle.std.specs.Prelude.{◌≡◌, ℕ, ◌+◌, List, ◌++◌, map}
use Rattle.trace_values.specs.declared.item.TraceItem.{TraceItem}
use Rattle.trace_arena.specs.Nodes.{Node, node_at, IsLive}
use Rattle.trace_arena.specs.Points.{points}
use Rattle.trace_arena.specs.Changes.{Begins, Appends, Links, Recounts, Releases, last_item}
use Rattle.trace_arena.specs.Whole.{IsWhole}
use Rattle.trace_cursor.specs.declared.cursor.Cursor.{Cursor}
use Rattle.trace_cursor.specs.Places.{StandsAt}
use Rattle.trace_cursor.specs.Pasts.{traced, plain}
use Rattle.trace_cursor.specs.Stacks.{frames_in, stack_of}

-- the cursor's root is live, and it stands at its point
abbrev pub IsGood : List (Node TraceItem) → Cursor → Type 0
IsGood nodes c = IsLive nodes c.root.0 × StandsAt nodes c

-- a new node in a whole arena leaves every cursor where it stands
abbrev pub StandsWhenBegun : Type 0
StandsWhenBegun = (old new : List (Node TraceItem)) (x : ℕ) (c : Cursor) → IsWhole old → Begins old new x → IsGood old c → IsGood new c

-- so does an item at the end of any node, the cursor's own too
abbrev pub StandsWhenAppended : Type 0
StandsWhenAppended = (old new : List (Node TraceItem)) (x : ℕ) (item : TraceItem) (c : Cursor) → Appends old new x item →
    IsGood old c → IsGood new c

-- and a link
abbrev pub StandsWhenLinked : Type 0
StandsWhenLinked = (old new : List (Node TraceItem)) (parent child : ℕ) (c : Cursor) → Links old new parent child →
    IsGood old c → IsGood new c

-- and one owner more of any node
abbrev pub StandsWhenRetained : Type 0
StandsWhenRetained = (old new : List (Node TraceItem)) (x : ℕ) (c : Cursor) →
    Recounts old new x ((node_at old x).owners + 1) → IsGood old c → IsGood new c

-- one owner less leaves every cursor where it stands whose root stays live
abbrev pub StandsWhenReleased : Type 0
StandsWhenReleased = (old new : List (Node TraceItem)) (x : ℕ) (c : Cursor) → Releases old new x → IsLive new c.root.0 →
    StandsAt old c → StandsAt new c

-- the points of nodes whose items know those before them are the points of the nodes
abbrev pub TracedPointsAreThePoints : Type 0
TracedPointsAreThePoints = (nodes : List (Node TraceItem)) (x : ℕ) → map plain (points (traced nodes) x) ≡ points nodes x

-- A node's points are read, where it is linked, with the frames of the item behind which it stands, and within them as in the
-- node alone; what was read in the other node before still is.
abbrev pub LinkedPointsStandWithin : Type 0
LinkedPointsStandWithin = (old new : List (Node TraceItem)) (parent child : ℕ) → Links old new parent child →
    map stack_of (points new parent) ≡ map stack_of (points old parent) ++ map (λ stack. frames_in (last_item old parent) ++ stack) (map stack_of (points old child))
