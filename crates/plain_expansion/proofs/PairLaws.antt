-- The first pair with a key, where a pair is added.
use Rattle.std.proofs.Common.{◌≡◌, Bool, true, false, cond, List, [], ◌∷◌, ◌++◌, Option, Some, None, refl, ap}
use Rattle.kept_values.specs.Trees.{Tree, Pair, same_tree, look_up}
use Rattle.kept_values.proofs.TreeLaws.{same_tree-same, same_tree-one}

stays_step : (b : Bool) (v w : Tree) (rest more : Option Tree) → cond b (Some v) rest ≡ Some w → (rest ≡ Some w → more ≡ Some w) →
    cond b (Some v) more ≡ Some w
stays_step true v w rest more is stays = is
stays_step false v w rest more is stays = stays is

-- what was found is found with a pair more
pub look_up-stays : (ps : List Pair) (p : Pair) (k v : Tree) → look_up ps k ≡ Some v → look_up (ps ++ p ∷ []) k ≡ Some v
look_up-stays [] p k v is = cc
look_up-stays (q ∷ ps) p k v is = stays_step (same_tree q.key k) q.value v (look_up ps k) (look_up (ps ++ p ∷ []) k) is
    (look_up-stays ps p k v)

new_step : (b : Bool) (v w : Tree) (rest more : Option Tree) → cond b (Some v) rest ≡ None → (rest ≡ None → more ≡ Some w) →
    cond b (Some v) more ≡ Some w
new_step true v w rest more is new = cc
new_step false v w rest more is new = new is

-- the value of a key that was not there
pub look_up-new : (ps : List Pair) (k v : Tree) → look_up ps k ≡ None → look_up (ps ++ record { key = k; value = v } ∷ []) k ≡ Some v
look_up-new [] k v is = ap (λ b. cond b (Some v) None) (same_tree-same k)
look_up-new (q ∷ ps) k v is = new_step (same_tree q.key k) q.value v (look_up ps k)
    (look_up (ps ++ record { key = k; value = v } ∷ []) k) is (look_up-new ps k v)

-- pairs that say of each key what a function says
abbrev pub Says : (Tree → Tree) → List Pair → Type 0
Says answer ps = (k v : Tree) → look_up ps k ≡ Some v → v ≡ answer k

says_step : (answer : Tree → Tree) (b : Bool) (v w k : Tree) (rest more : Option Tree) → (cond b (Some v) rest ≡ Some w → w ≡ answer k) →
    cond b (Some v) more ≡ Some w →
    ((rest ≡ Some w → w ≡ answer k) → more ≡ Some w → w ≡ answer k) → w ≡ answer k
says_step answer true v w k rest more all is more_says = all is
says_step answer false v w k rest more all is more_says = more_says all is

last_says : (answer : Tree → Tree) (k l w : Tree) (b : Bool) → same_tree k l ≡ b → cond b (Some (answer k)) None ≡ Some w → w ≡ answer l
last_says answer k l w true is found = let one = same_tree-one k l is in cc
last_says answer k l w false is found = cc

says_at : (answer : Tree → Tree) (ps : List Pair) (k l w : Tree) → (look_up ps l ≡ Some w → w ≡ answer l) →
    look_up (ps ++ record { key = k; value = answer k } ∷ []) l ≡ Some w → w ≡ answer l
says_at answer [] k l w all is = last_says answer k l w (same_tree k l) refl is
says_at answer (q ∷ ps) k l w all is =
    says_step answer (same_tree q.key l) q.value w l (look_up ps l) (look_up (ps ++ record { key = k; value = answer k } ∷ []) l) all is
    (λ rest more. says_at answer ps k l w rest more)

pub Says-more : (answer : Tree → Tree) (ps : List Pair) (k : Tree) → Says answer ps →
    Says answer (ps ++ record { key = k; value = answer k } ∷ [])
Says-more answer ps k all = λ l w is. says_at answer ps k l w (all l w) is
