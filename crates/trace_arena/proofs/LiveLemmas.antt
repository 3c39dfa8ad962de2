-- Live nodes are those that an owner from outside reaches.
use Rattle.std.proofs.Common.{ℕ, zero, suc, ◌+◌, ◌<◌, ◌≤◌, max, List, [], ◌∷◌, ap, inl, inr, arith}
use Rattle.std.proofs.lemmas.Bool.{cases_lt}
use Rattle.trace_arena.specs.Nodes.{Node, node_at, leads, parents, outside, IsLive, IsLinked, IsReached, IsReached.from_outside, IsReached.by_link}
use Rattle.trace_arena.specs.Whole.{IsWhole}
use Rattle.trace_arena.proofs.LinkLemmas.{linked_live}

-- the greatest height of a node
abbrev tallest : {I : Type 0} → List (Node I) → ℕ
tallest [] = 0
tallest (n ∷ ns) = max n.height (tallest ns)

height_le : {I : Type 0} (nodes : List (Node I)) (x : ℕ) → (node_at nodes x).height ≤ tallest nodes
height_le [] x = omega arith
height_le (n ∷ ns) zero = omega arith
height_le (n ∷ ns) (suc x) = omega (arith, height_le ns x)

-- a node that has a parent is linked by one
parent_found : {I : Type 0} (nodes : List (Node I)) (x : ℕ) → 0 < parents nodes x → (y : ℕ) × IsLinked nodes y x
parent_found [] x some = absurd (omega arith)
parent_found (n ∷ ns) x some = elim (cases_lt 0 (leads x n.links)) [
  | inl first ↦ (0, first)
  | inr none ↦ let later = parent_found ns x (omega arith) in (suc later.0, later.1)
]

-- a node that links another is live
pub linking_live : {I : Type 0} (nodes : List (Node I)) → IsWhole nodes → (y x : ℕ) → IsLinked nodes y x → IsLive nodes y
linking_live nodes whole y x linked = elim (cases_lt 0 (node_at nodes y).owners) [
  | inl live ↦ live
  | inr none ↦ absurd (omega (arith, linked, ap (λ n. leads x n.links) (whole.free y (omega arith))))
]

pub live_from_reached : {I : Type 0} (nodes : List (Node I)) → IsWhole nodes → (x : ℕ) → IsReached nodes (outside nodes) x → IsLive nodes x
live_from_reached nodes whole _ (from_outside x owned) = omega arith
live_from_reached nodes whole _ (by_link y x reached linked) = linked_live nodes whole y x linked

reached_below : {I : Type 0} (nodes : List (Node I)) → IsWhole nodes → (gas x : ℕ) → tallest nodes < (node_at nodes x).height + gas →
    IsLive nodes x → IsReached nodes (outside nodes) x
reached_below nodes whole zero x room live = absurd (omega (arith, height_le nodes x))
reached_below nodes whole (suc gas) x room live = elim (cases_lt 0 (outside nodes x)) [
  | inl owned ↦ from_outside x owned
  | inr none ↦
      let found = parent_found nodes x (omega arith) in
      by_link found.0 x
      (reached_below nodes whole gas found.0 (omega (arith, whole.below found.0 x found.1)) (linking_live nodes whole found.0 x found.1))
      found.1
]

pub reached_from_live : {I : Type 0} (nodes : List (Node I)) → IsWhole nodes → (x : ℕ) → IsLive nodes x → IsReached nodes (outside nodes) x
reached_from_live nodes whole x live = reached_below nodes whole (suc (tallest nodes)) x (omega arith) live
