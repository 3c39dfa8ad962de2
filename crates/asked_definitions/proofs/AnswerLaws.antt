-- What is noted first of a key, one noted pair after the other.
use Rattle.std.proofs.Common.{◌≡◌, ◌∙◌, ◌+◌, ◌<◌, ◌≤◌, ℕ, suc, cond, List, ◌∷◌, length, get_or, drop, Option, Some, None, sym, ap, add-one, drop_of_length-le}
use Rattle.std.proofs.Math.Seq.{drop-cons}
use Rattle.hl_base.specs.declared.set.Key.{Key}
use Rattle.kept_values.specs.Trees.{Tree, same_tree, look_up}
use Rattle.kept_values.specs.Keys.{key_tree}
use Rattle.kept_values.proofs.TreeLaws.{same_tree-same, same_tree-other}
use Rattle.asking_core.specs.declared.footprint.Noted.{Noted}
use Rattle.asking_core.specs.Places.{pairs_of}
use Rattle.call_sites.specs.Values.{known_tree}
use Rattle.call_sites.specs.declared.known.Known.{Known}

-- the item at a place, and those behind it
item-at : (ns : List (Noted Key Known)) (i : ℕ) (n : Noted Key Known) → i < length ns → n ≡ get_or ns i n → drop i ns ≡ n ∷ drop (i + 1) ns
item-at ns i n within is =
    drop-cons ns i n within ∙ ap (λ y. y ∷ drop (suc i) ns) (sym is) ∙ ap (λ k. n ∷ drop k ns) (sym (add-one i))

-- what is noted in some pairs
abbrev pub noted_at : List (Noted Key Known) → Key → Option Tree
noted_at ns key = look_up (pairs_of key_tree known_tree ns) (key_tree key)

-- a pair of the key itself
pub noted-found : (ns : List (Noted Key Known)) (i : ℕ) (n : Noted Key Known) (key : Key) → i < length ns → n ≡ get_or ns i n →
    key_tree n.key ≡ key_tree key → noted_at (drop i ns) key ≡ Some (known_tree n.value)
noted-found ns i n key within is same =
    ap (λ xs. noted_at xs key) (item-at ns i n within is)
    ∙ ap (λ b. cond b (Some (known_tree n.value)) (noted_at (drop (i + 1) ns) key))
    (ap (λ t. same_tree t (key_tree key)) same ∙ same_tree-same (key_tree key))

-- a pair of another key
pub noted-passed : (ns : List (Noted Key Known)) (i : ℕ) (n : Noted Key Known) (key : Key) → i < length ns → n ≡ get_or ns i n →
    ¬ (key_tree n.key ≡ key_tree key) → noted_at (drop i ns) key ≡ noted_at (drop (i + 1) ns) key
noted-passed ns i n key within is differ =
    ap (λ xs. noted_at xs key) (item-at ns i n within is)
    ∙ ap (λ b. cond b (Some (known_tree n.value)) (noted_at (drop (i + 1) ns) key))
    (same_tree-other (key_tree n.key) (key_tree key) differ)

-- and none is left
pub noted-none : (ns : List (Noted Key Known)) (i : ℕ) (key : Key) → length ns ≤ i → noted_at (drop i ns) key ≡ None
noted-none ns i key past = ap (λ xs. noted_at xs key) (drop_of_length-le ns past)
