-- Fronts of lists.
use Rattle.std.proofs.Common.{◌≡◌, ℕ, ◌+◌, ◌<◌, ◌≤◌, List, [], ◌∷◌, ◌++◌, length, take, get_or, map, min, sym, ap, ◌∙◌}
use Rattle.std.proofs.lemmas.List.{map-append, take_all, take_min, take_more}

-- what was done for the first so many of some items, up to their end, is done for all of these
pub map_all_shown : {A B : Type 0} (f : A → B) (xs : List A) (done : List B) (most shown i : ℕ) → done ≡ map f (take i (take shown xs)) → length (take shown xs) ≤ i → shown ≡ min most (length xs)
    → done ≡ map f (take most xs)
map_all_shown f xs done most shown i is all few =
    is ∙ ap (map f) (take_all i (take shown xs) all ∙ ap (λ n. take n xs) few ∙ take_min most xs)

-- what was done for the first so many of some items, and for the next, is done for one more
pub map_next : {A B : Type 0} (f : A → B) (xs : List A) (done more : List B) (i : ℕ) (x : A) (y : B) → done ≡ map f (take i xs) → i < length xs → x ≡ get_or xs i x → y ≡ f x → more ≡ done ++ y ∷ []
    → more ≡ map f (take (i + 1) xs)
map_next f xs done more i x y is within at made grown =
    grown ∙ ap (λ front. front ++ y ∷ []) is ∙ ap (λ z. map f (take i xs) ++ z ∷ []) (made ∙ ap f at) ∙ sym (map-append f (take i xs) (get_or xs i x ∷ []))
    ∙ ap (map f) (sym (take_more xs i x within))
