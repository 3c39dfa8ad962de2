-- Lists up to an index, and what is made of them.
use Rattle.std.proofs.Common.{◌≡◌, ℕ, ◌+◌, ◌<◌, Bool, cond, List, [], ◌∷◌, ◌++◌, length, take, get_or, map, filter, sym, ap, ◌∙◌}
use Rattle.std.proofs.lemmas.List.{map-append, take_more}
use Rattle.std.proofs.lemmas.List.Elements.{filter-append}

-- what was made of the first so many of some items, and of the next, is made of one more
pub map_next : {A B C : Type 0} (g : B → C) (f : A → B) (xs : List A) (done more : List C) (i : ℕ) (x : A) → done ≡ map g (map f (take i xs)) → i < length xs → x ≡ get_or xs i x
    → more ≡ done ++ g (f x) ∷ [] → more ≡ map g (map f (take (i + 1) xs))
map_next g f xs done more i x is within at grown =
    grown
    ∙ ap (λ front. front ++ g (f x) ∷ []) is
    ∙ ap (λ z. map g (map f (take i xs)) ++ g (f z) ∷ []) at
    ∙ sym (map-append g (map f (take i xs)) (f (get_or xs i x) ∷ []))
    ∙ ap (map g) (sym (map-append f (take i xs) (get_or xs i x ∷ [])))
    ∙ ap (λ front. map g (map f front)) (sym (take_more xs i x within))

-- the same of those that pass a test
pub filter_next : {A B : Type 0} (f : A → B) (test : A → Bool) (xs : List A) (done more : List B) (i : ℕ) (x : A) → done ≡ map f (filter test (take i xs)) → i < length xs → x ≡ get_or xs i x
    → more ≡ done ++ map f (cond (test x) (x ∷ []) []) → more ≡ map f (filter test (take (i + 1) xs))
filter_next f test xs done more i x is within at grown =
    grown
    ∙ ap (λ front. front ++ map f (filter test (x ∷ []))) is
    ∙ ap (λ z. map f (filter test (take i xs)) ++ map f (filter test (z ∷ []))) at
    ∙ sym (map-append f (filter test (take i xs)) (filter test (get_or xs i x ∷ [])))
    ∙ ap (map f) (sym (filter-append test (take i xs) (get_or xs i x ∷ [])))
    ∙ ap (λ front. map f (filter test front)) (sym (take_more xs i x within))
