-- What each call changes (this project).
use Rattle.std.specs.Prelude.{◌≡◌, ◌≢◌, ℕ, ◌+◌, ◌-◌, ◌==◌, if◌then◌else◌, List, [], ◌∷◌, ◌++◌, length, map}
use Rattle.trace_arena.specs.Nodes.{Node, node_at, parents, outside, IsLive, IsUnshared, IsReached, children}
use Rattle.trace_arena.specs.Points.{own, within, last_before, points}

-- a node keeps what it holds and means, and its links from and to others
pub record Keeps {I : Type 0} (old new : List (Node I)) (y : ℕ) : Type 0 where
  pub items : (node_at new y).items ≡ (node_at old y).items
  pub links : (node_at new y).links ≡ (node_at old y).links
  pub points : points new y ≡ points old y

-- a node keeps its owners too
pub record Stays {I : Type 0} (old new : List (Node I)) (y : ℕ) : Type 0 where
  pub keeps : Keeps old new y
  pub owners : (node_at new y).owners ≡ (node_at old y).owners
  pub parents : parents new y ≡ parents old y

-- a node has so many owners, and nothing else changes
pub record Recounts {I : Type 0} (old new : List (Node I)) (x count : ℕ) : Type 0 where
  pub keeps : (y : ℕ) → Keeps old new y
  pub owners : (node_at new x).owners ≡ count
  pub parents : (y : ℕ) → parents new y ≡ parents old y
  pub others : (y : ℕ) → y ≢ x → (node_at new y).owners ≡ (node_at old y).owners

-- a number that was free has a node without points, which its maker alone owns
pub record Begins {I : Type 0} (old new : List (Node I)) (x : ℕ) : Type 0 where
  pub was_free : (node_at old x).owners ≡ 0
  pub unshared : IsUnshared new x
  pub items : (node_at new x).items ≡ []
  pub links : (node_at new x).links ≡ []
  pub points : points new x ≡ []
  pub others : (y : ℕ) → y ≢ x → Stays old new y

-- an item is the last point of the node
pub record Appends {I : Type 0} (old new : List (Node I)) (x : ℕ) (item : I) : Type 0 where
  pub unshared : IsUnshared new x
  pub items : (node_at new x).items ≡ (node_at old x).items ++ item ∷ []
  pub links : (node_at new x).links ≡ (node_at old x).links
  pub points : points new x ≡ points old x ++ own item ∷ []
  pub others : (y : ℕ) → y ≢ x → Stays old new y

-- the items behind which a node that is linked now stands
abbrev pub last_item : {I : Type 0} → List (Node I) → ℕ → List I
last_item nodes x = last_before (length (node_at nodes x).items) (node_at nodes x).items

-- the points of the child are the last points of the parent, behind its last item, and the link is one more owner of
-- the child
pub record Links {I : Type 0} (old new : List (Node I)) (parent child : ℕ) : Type 0 where
  pub unshared : IsUnshared new parent
  pub items : (node_at new parent).items ≡ (node_at old parent).items
  pub linked : children new parent ≡ children old parent ++ child ∷ []
  pub points : points new parent ≡ points old parent ++ map (within (last_item old parent)) (points old child)
  pub stands : Keeps old new child
  pub owners : (node_at new child).owners ≡ (node_at old child).owners + 1
  pub parents : parents new child ≡ parents old child + 1
  pub others : (y : ℕ) → y ≢ parent → y ≢ child → Stays old new y

-- a count less one, for one node
abbrev pub less_one : (ℕ → ℕ) → ℕ → ℕ → ℕ
less_one count x y = if y == x then count y - 1 else count y

-- One owner from outside is given up, and the live nodes are those that the others reach. These keep what they hold and
-- mean.
pub record Releases {I : Type 0} (old new : List (Node I)) (x : ℕ) : Type 0 where
  pub outer : (y : ℕ) → outside new y ≡ less_one (outside old) x y
  pub live : (y : ℕ) → IsLive new y → IsReached old (less_one (outside old) x) y
  pub reached : (y : ℕ) → IsReached old (less_one (outside old) x) y → IsLive new y
  pub keeps : (y : ℕ) → IsLive new y → Keeps old new y
  pub unshared : (y : ℕ) → y ≢ x → IsUnshared old y → IsUnshared new y
