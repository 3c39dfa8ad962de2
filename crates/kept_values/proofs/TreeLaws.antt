-- Trees are compared, and the first pair with a key is found.
use Rattle.std.proofs.Common.{◌≡◌, Bool, true, false, ◌&&◌, refl, ap, ◌∙◌, eqb-true, eq-eqb}
use Rattle.kept_values.specs.Trees.{Tree, Leaf, Fork, same_tree}

both_true : (x y : Bool) → (x && y) ≡ true → (x ≡ true) × (y ≡ true)
both_true true true is = (refl, refl)
both_true true false is = (refl, is)
both_true false y is = (is, cc)

-- a tree is the same as itself
pub same_tree-same : (a : Tree) → same_tree a a ≡ true
same_tree-same (Leaf n) = eq-eqb n n refl
same_tree-same (Fork a b) = ap (λ x. x && same_tree b b) (same_tree-same a) ∙ same_tree-same b

-- trees that are the same are one
pub same_tree-one : (a b : Tree) → same_tree a b ≡ true → a ≡ b
same_tree-one (Leaf m) (Leaf n) is = ap Leaf (eqb-true m n is)
same_tree-one (Leaf m) (Fork c d) is = cc
same_tree-one (Fork a b) (Leaf n) is = cc
same_tree-one (Fork a b) (Fork c d) is =
    let both = both_true (same_tree a c) (same_tree b d) is in
    let left : a ≡ c = same_tree-one a c both.0 in
    let right : b ≡ d = same_tree-one b d both.1 in
    cc

-- trees that differ are not the same
pub same_tree-other : (a b : Tree) → ¬ (a ≡ b) → same_tree a b ≡ false
same_tree-other a b differ =
    let by : (x : Bool) → same_tree a b ≡ x → same_tree a b ≡ false = elim [
      | true ↦ λ is. absurd (differ (same_tree-one a b is))
      | false ↦ λ is. is
    ] in
    by (same_tree a b) refl
