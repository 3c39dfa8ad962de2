-- The first element that passes a test, as elements are passed.
use Rattle.std.proofs.Common.{◌≡◌, ◌∙◌, ℕ, suc, ◌+◌, ◌<◌, ◌≤◌, Bool, true, false, cond, List, [], ◌∷◌, length, drop, get_or, Option, Some, None, refl, sym, ap, add-one, drop-cons}
use Rattle.std.specs.List.{find}
use Rattle.std.proofs.Math.ListN.{drop_of_length-le}

first : {X : Type 0} (test : X → Bool) (xs : List X) (i : ℕ) (x : X) → i < length xs → x ≡ get_or xs i x →
    find test (drop i xs) ≡ cond (test x) (Some x) (find test (drop (i + 1) xs))
first test xs i x h is =
    ap (find test) (drop-cons xs i x h ∙ ap (λ y. y ∷ drop (suc i) xs) (sym is)) ∙ ap (λ k. cond (test x) (Some x) (find test (drop k xs))) (sym (add-one i))

-- the next one does not pass
pub find-on : {X : Type 0} (test : X → Bool) (xs : List X) (i : ℕ) (x : X) → i < length xs → x ≡ get_or xs i x → test x ≡ false →
    find test (drop i xs) ≡ find test xs → find test (drop (i + 1) xs) ≡ find test xs
find-on test xs i x h is fails so_far =
    sym (first test xs i x h is ∙ ap (λ b. cond b (Some x) (find test (drop (i + 1) xs))) fails) ∙ so_far

-- the next one passes
pub find-here : {X : Type 0} (test : X → Bool) (xs : List X) (i : ℕ) (x : X) → i < length xs → x ≡ get_or xs i x → test x ≡ true →
    find test (drop i xs) ≡ find test xs → Some x ≡ find test xs
find-here test xs i x h is passes so_far =
    sym (first test xs i x h is ∙ ap (λ b. cond b (Some x) (find test (drop (i + 1) xs))) passes) ∙ so_far

-- there is no next one
pub find-end : {X : Type 0} (test : X → Bool) (xs : List X) (i : ℕ) → length xs ≤ i → find test (drop i xs) ≡ find test xs → None ≡ find test xs
find-end test xs i h so_far = sym (ap (find test) (drop_of_length-le xs h)) ∙ so_far
