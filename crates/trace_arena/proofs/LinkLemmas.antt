-- Links by the nodes that they lead to: how many lead to one, in a list and in all.
use Rattle.std.proofs.Common.{◌≡◌, ◌≢◌, ℕ, zero, suc, ◌+◌, ◌<◌, ◌≤◌, List, [], ◌∷◌, ◌++◌, length, set, refl, arith, zero-add}
use Rattle.std.proofs.lemmas.Bool.{eq-eqb, ne_eqb}
use Rattle.trace_arena.specs.declared.node.Link.{Link}
use Rattle.trace_arena.specs.Nodes.{Node, node_at, leads, parents, IsLive, IsLinked}
use Rattle.trace_arena.specs.Whole.{IsWhole}

pub leads_same : (x : ℕ) (l : Link) (ls : List Link) → l.child.0 ≡ x → leads x (l ∷ ls) ≡ 1 + leads x ls
leads_same x l ls same = rw (eq-eqb l.child.0 x same) refl

pub leads_other : (x : ℕ) (l : Link) (ls : List Link) → l.child.0 ≢ x → leads x (l ∷ ls) ≡ leads x ls
leads_other x l ls differ = rw (ne_eqb l.child.0 x differ) (zero-add (leads x ls))

-- the first link leads to its child, and what a later link leads to is led to
pub leads_first : (l : Link) (ls : List Link) → 0 < leads l.child.0 (l ∷ ls)
leads_first l ls = omega (arith, leads_same l.child.0 l ls refl)

pub leads_rest : (x : ℕ) (l : Link) (ls : List Link) → 0 < leads x ls → 0 < leads x (l ∷ ls)
leads_rest x l ls lt = omega arith

pub leads_push : (x : ℕ) (ls : List Link) (l : Link) → leads x (ls ++ l ∷ []) ≡ leads x ls + leads x (l ∷ [])
leads_push x [] l = omega arith
leads_push x (k ∷ ks) l = omega (arith, leads_push x ks l)

-- links of one node are some of all
pub leads_le : {I : Type 0} (nodes : List (Node I)) (x y : ℕ) → leads x (node_at nodes y).links ≤ parents nodes x
leads_le [] x y = omega arith
leads_le (n ∷ ns) x zero = omega arith
leads_le (n ∷ ns) x (suc y) = omega (arith, leads_le ns x y)

-- where a node is written, its links are counted in place of those that it had
pub parents_set : {I : Type 0} (nodes : List (Node I)) (x y : ℕ) (n : Node I) → y < length nodes →
    parents (set nodes y n) x + leads x (node_at nodes y).links ≡ parents nodes x + leads x n.links
parents_set [] x y n lt = absurd (omega arith)
parents_set (m ∷ ms) x zero n lt = omega arith
parents_set (m ∷ ms) x (suc y) n lt = omega (arith, parents_set ms x y n (omega arith))

pub parents_push : {I : Type 0} (nodes : List (Node I)) (x : ℕ) (n : Node I) →
    parents (nodes ++ n ∷ []) x ≡ parents nodes x + leads x n.links
parents_push [] x n = omega arith
parents_push (m ∷ ms) x n = omega (arith, parents_push ms x n)

-- a node that is linked has a parent, and is live
pub linked_parents : {I : Type 0} (nodes : List (Node I)) (y x : ℕ) → IsLinked nodes y x → 0 < parents nodes x
linked_parents nodes y x linked = omega (arith, leads_le nodes x y)

pub linked_live : {I : Type 0} (nodes : List (Node I)) → IsWhole nodes → (y x : ℕ) → IsLinked nodes y x → IsLive nodes x
linked_live nodes whole y x linked = omega (arith, leads_le nodes x y, whole.counted x)
