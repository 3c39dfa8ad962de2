-- Lists from a place on, and lists that are taken from their end.
use Rattle.std.proofs.Common.{◌≡◌, ℕ, zero, suc, List, [], ◌∷◌, ◌++◌, map, reverse, drop, length, Some, None, refl, ap, ◌∙◌, arith, slice_get}
use Rattle.std.proofs.lemmas.List.{reverse-append, length-append, map-append}
use Rattle.kept_values.specs.Trees.{Tree}

-- the keys from a place on, where there is one
pub drop-there : {K : Type 0} (f : K → Tree) (keys : List K) (n : ℕ) (k : K) → slice_get keys n ≡ Some k →
    drop n (map f keys) ≡ f k ∷ drop (suc n) (map f keys)
drop-there f [] n k is = cc
drop-there f (x ∷ keys) zero k is = let one : x ≡ k = cc in ap (λ y. f y ∷ map f keys) one
drop-there f (x ∷ keys) (suc n) k is = drop-there f keys n k is

-- and where there is none
pub drop-none : {K : Type 0} (f : K → Tree) (keys : List K) (n : ℕ) → slice_get keys n ≡ None → drop n (map f keys) ≡ []
drop-none f [] zero is = refl
drop-none f [] (suc n) is = refl
drop-none f (x ∷ keys) zero is = cc
drop-none f (x ∷ keys) (suc n) is = drop-none f keys n is

-- the last of a list is the first of the reversed one
pub reverse-last : {X Y : Type 0} (f : X → Y) (xs : List X) (x : X) → reverse (map f (xs ++ x ∷ [])) ≡ f x ∷ reverse (map f xs)
reverse-last f xs x = ap reverse (map-append f xs (x ∷ [])) ∙ reverse-append (map f xs) (f x ∷ [])

pub length-more : {X : Type 0} (xs : List X) (x : X) → length (xs ++ x ∷ []) ≡ suc (length xs)
length-more xs x = let sum = length-append xs (x ∷ []) in omega arith

-- what is kept the other way round is read the other way round
pub map-reversed : {X Y : Type 0} (f : X → Y) (xs : List X) → reverse (map f (reverse xs)) ≡ map f xs
map-reversed f [] = refl
map-reversed f (x ∷ xs) =
    ap (λ l. reverse (map f l)) (reverse-append (x ∷ []) xs) ∙ reverse-last f (reverse xs) x ∙ ap (λ l. f x ∷ l) (map-reversed f xs)
