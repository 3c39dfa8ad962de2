-- What merged footprints say.
use Rattle.std.proofs.Common.{◌≡◌, Bool, true, false, cond, List, [], ◌∷◌, ◌++◌, Option, Some, None, refl, sym, ap, ◌∙◌}
use Rattle.std.specs.Option.{option_or}
use Rattle.kept_values.specs.Trees.{Tree, Pair, same_tree, look_up}
use Rattle.kept_values.proofs.TreeLaws.{same_tree-one}
use Rattle.asking_core.specs.Footprints.{noted, merged, unless_there}
use Rattle.asking_core.proofs.FootprintSteps.{look_up-append}

or_none : (o : Option Tree) → option_or o None ≡ o
or_none None = refl
or_none (Some x) = refl

or_some : (o : Option Tree) (w v : Tree) → o ≡ Some w → option_or o None ≡ option_or o (Some v)
or_some None w v is = cc
or_some (Some x) w v is = refl

or_or : (o p q : Option Tree) → option_or (option_or o p) q ≡ option_or o (option_or p q)
or_or None p q = refl
or_or (Some x) p q = refl

one_step : (b : Bool) (v : Tree) (o : Option Tree) → option_or (cond b (Some v) None) o ≡ cond b (Some v) o
one_step true v o = refl
one_step false v o = refl

there_step : (ps : List Pair) (p : Pair) (k w : Tree) (b : Bool) → look_up ps p.key ≡ Some w → same_tree p.key k ≡ b →
    option_or (look_up ps k) None ≡ option_or (look_up ps k) (cond b (Some p.value) None)
there_step ps p k w true here is = or_some (look_up ps k) w p.value (ap (look_up ps) (sym (same_tree-one p.key k is)) ∙ here)
there_step ps p k w false here is = refl

noted_step : (ps : List Pair) (p : Pair) (k : Tree) (o : Option Tree) → look_up ps p.key ≡ o →
    option_or (look_up ps k) (look_up (unless_there o p []) k) ≡ option_or (look_up ps k) (look_up (p ∷ []) k)
noted_step ps p k None is = refl
noted_step ps p k (Some w) is = there_step ps p k w (same_tree p.key k) is refl

look_up-noted : (ps : List Pair) (p : Pair) (k : Tree) → look_up (noted ps p) k ≡ option_or (look_up ps k) (look_up (p ∷ []) k)
look_up-noted ps p k = look_up-append ps (unless_there (look_up ps p.key) p []) k ∙ noted_step ps p k (look_up ps p.key) refl

pub look_up-merged : (ps qs : List Pair) (k : Tree) → look_up (merged ps qs) k ≡ option_or (look_up ps k) (look_up qs k)
look_up-merged ps [] k = sym (or_none (look_up ps k))
look_up-merged ps (q ∷ qs) k =
    look_up-merged (noted ps q) qs k
    ∙ ap (λ o. option_or o (look_up qs k)) (look_up-noted ps q k)
    ∙ or_or (look_up ps k) (look_up (q ∷ []) k) (look_up qs k)
    ∙ ap (option_or (look_up ps k)) (one_step (same_tree q.key k) q.value (look_up qs k))

pub merged-append : (ps a b : List Pair) → merged ps (a ++ b) ≡ merged (merged ps a) b
merged-append ps [] b = refl
merged-append ps (p ∷ a) b = merged-append (noted ps p) a b
