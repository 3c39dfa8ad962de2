-- What is true of every arena (this project).
use Rattle.std.specs.Prelude.{◌≡◌, ℕ, ◌+◌, ◌-◌, ◌<◌, ◌≤◌, List, [], ◌∷◌, length}
use Rattle.trace_arena.specs.declared.node.Link.{Link}
use Rattle.trace_arena.specs.Nodes.{Node, free_node, node_at, parents, IsLive, IsLinked}

-- the links from a place on stand in the order of their places, each with the number of points before it, and the points
-- end where the items do
abbrev pub IsPlaced : (ℕ → ℕ) → ℕ → ℕ → ℕ → ℕ → List Link → Type 0
IsPlaced total from before end whole [] = (from ≤ end) × (before + (end - from) ≡ whole)
IsPlaced total from before end whole (l ∷ ls) =
    (from ≤ l.at) × (l.before ≡ before + (l.at - from)) × IsPlaced total l.at (l.before + total l.child.0) end whole ls

-- Each link is an owner of its child, a child has a lesser height, and a live node has one; what is not live holds
-- nothing; and the links stand in their places.
pub record IsWhole {I : Type 0} (nodes : List (Node I)) : Type 0 where
  pub counted : (x : ℕ) → parents nodes x ≤ (node_at nodes x).owners
  pub below : (x c : ℕ) → IsLinked nodes x c → (node_at nodes c).height < (node_at nodes x).height
  pub tall : (x : ℕ) → IsLive nodes x → 0 < (node_at nodes x).height
  pub free : (x : ℕ) → (node_at nodes x).owners ≡ 0 → node_at nodes x ≡ free_node
  pub placed : (x : ℕ) →
      IsPlaced (λ c. (node_at nodes c).total) 0 0 (length (node_at nodes x).items) (node_at nodes x).total (node_at nodes x).links
