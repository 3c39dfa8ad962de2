-- What is left of a list tells what the whole does, one item after the other.
use Rattle.std.proofs.Common.{◌≡◌, ◌∙◌, ◌+◌, ◌<◌, ◌≤◌, ℕ, suc, Bool, true, false, cond, List, ◌∷◌, length, get_or, drop, Some, None, find, sym, ap, add-one, drop_of_length-le}
use Rattle.std.proofs.Math.Seq.{drop-cons}

-- the item at a place, and those behind it
pub item-at : {X : Type 0} (xs : List X) (i : ℕ) (x : X) → i < length xs → x ≡ get_or xs i x → drop i xs ≡ x ∷ drop (i + 1) xs
item-at xs i x within is =
    drop-cons xs i x within ∙ ap (λ y. y ∷ drop (suc i) xs) (sym is) ∙ ap (λ k. x ∷ drop k xs) (sym (add-one i))

-- the same of a list that is read under another name
pub item-in : {X : Type 0} (xs read : List X) (i : ℕ) (x : X) → read ≡ xs → i < length read → x ≡ get_or read i x → drop i xs ≡ x ∷ drop (i + 1) xs
item-in xs read i x same within is = ap (drop i) (sym same) ∙ item-at read i x within is ∙ ap (λ ys. x ∷ drop (i + 1) ys) same

pub find-found : {X : Type 0} (test : X → Bool) (xs : List X) (i : ℕ) (x : X) → i < length xs → x ≡ get_or xs i x → test x ≡ true →
    find test (drop i xs) ≡ Some x
find-found test xs i x within is passes =
    ap (find test) (item-at xs i x within is) ∙ ap (λ b. cond b (Some x) (find test (drop (i + 1) xs))) passes

pub find-passed : {X : Type 0} (test : X → Bool) (xs : List X) (i : ℕ) (x : X) → i < length xs → x ≡ get_or xs i x → test x ≡ false →
    find test (drop i xs) ≡ find test (drop (i + 1) xs)
find-passed test xs i x within is fails =
    ap (find test) (item-at xs i x within is) ∙ ap (λ b. cond b (Some x) (find test (drop (i + 1) xs))) fails

pub find-past : {X : Type 0} (test : X → Bool) (xs : List X) (i : ℕ) → length xs ≤ i → find test (drop i xs) ≡ None
find-past test xs i past = ap (find test) (drop_of_length-le xs past)
