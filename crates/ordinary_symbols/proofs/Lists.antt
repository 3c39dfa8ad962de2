-- Lists at a place, by `slice_get`.
use Rattle.std.proofs.Common.{◌≡◌, ◌≢◌, ℕ, zero, suc, List, [], ◌∷◌, ◌++◌, length, map, Option, Some, None, refl, sym, ap, ◌∙◌, set, slice_get}
use Rattle.std.specs.Option.{option_map}

pub slice_get-set_same : {X : Type 0} (xs : List X) (i : ℕ) (x y : X) → slice_get xs i ≡ Some x → slice_get (set xs i y) i ≡ Some y
slice_get-set_same [] i x y is = absurd cc
slice_get-set_same (z ∷ xs) zero x y is = refl
slice_get-set_same (z ∷ xs) (suc i) x y is = slice_get-set_same xs i x y is

pub slice_get-set_other : {X : Type 0} (xs : List X) (i j : ℕ) (y : X) → i ≢ j → slice_get (set xs i y) j ≡ slice_get xs j
slice_get-set_other [] i j y differ = refl
slice_get-set_other (z ∷ xs) zero zero y differ = absurd (differ refl)
slice_get-set_other (z ∷ xs) zero (suc j) y differ = refl
slice_get-set_other (z ∷ xs) (suc i) zero y differ = refl
slice_get-set_other (z ∷ xs) (suc i) (suc j) y differ = slice_get-set_other xs i j y (λ e. differ (ap suc e))

pub set-slice_get : {X : Type 0} (xs : List X) (i : ℕ) (x : X) → slice_get xs i ≡ Some x → set xs i x ≡ xs
set-slice_get [] i x is = absurd cc
set-slice_get (z ∷ xs) zero x is = let same : z ≡ x = cc in ap (λ w. w ∷ xs) (sym same)
set-slice_get (z ∷ xs) (suc i) x is = ap (λ ws. z ∷ ws) (set-slice_get xs i x is)

some_none : {X : Type 0} (x : X) → Some x ≡ None → ⊥
some_none x is = cc

none_some : {X : Type 0} (x : X) → None ≡ Some x → ⊥
none_some x is = cc

some_same : {X : Type 0} (x y : X) → Some x ≡ Some y → x ≡ y
some_same x y is = cc

-- two lists with the same elements at all places are one
pub same_at_all : {X : Type 0} (xs ys : List X) → ((k : ℕ) → slice_get xs k ≡ slice_get ys k) → xs ≡ ys
same_at_all [] [] same = refl
same_at_all [] (y ∷ ys) same = absurd (none_some y (same zero))
same_at_all (x ∷ xs) [] same = absurd (some_none x (same zero))
same_at_all (x ∷ xs) (y ∷ ys) same =
    ap (λ w. w ∷ xs) (some_same x y (same zero)) ∙ ap (λ ws. y ∷ ws) (same_at_all xs ys (λ k. same (suc k)))

pub slice_get-middle : {X : Type 0} (xs ys : List X) (x : X) → slice_get (xs ++ x ∷ ys) (length xs) ≡ Some x
slice_get-middle [] ys x = refl
slice_get-middle (z ∷ xs) ys x = slice_get-middle xs ys x

-- what is mapped at a place
pub slice_get-map : {X Y : Type 0} (f : X → Y) (xs : List X) (i : ℕ) (x : X) → slice_get xs i ≡ Some x → slice_get (map f xs) i ≡ Some (f x)
slice_get-map f [] i x is = absurd cc
slice_get-map f (z ∷ xs) zero x is = ap (λ w. Some (f w)) (some_same z x is)
slice_get-map f (z ∷ xs) (suc i) x is = slice_get-map f xs i x is

pub slice_get_mapped : {X Y : Type 0} (f : X → Y) (xs : List X) (i : ℕ) → slice_get (map f xs) i ≡ option_map f (slice_get xs i)
slice_get_mapped f [] i = refl
slice_get_mapped f (z ∷ xs) zero = refl
slice_get_mapped f (z ∷ xs) (suc i) = slice_get_mapped f xs i

pub slice_get-map_none : {X Y : Type 0} (f : X → Y) (xs : List X) (i : ℕ) → slice_get xs i ≡ None → slice_get (map f xs) i ≡ None
slice_get-map_none f [] i is = refl
slice_get-map_none f (z ∷ xs) zero is = absurd (some_none z is)
slice_get-map_none f (z ∷ xs) (suc i) is = slice_get-map_none f xs i is

-- lists that are mapped alike are equally long
pub none_alike : {X Y : Type 0} (f : X → Y) (xs ys : List X) (i : ℕ) → map f xs ≡ map f ys → slice_get xs i ≡ None → slice_get ys i ≡ None
none_alike f xs ys i alike none = by (slice_get ys i) refl
  where
    by : (o : Option _) → slice_get ys i ≡ o → slice_get ys i ≡ None
    by None is = is
    by (Some y) is =
        absurd (none_some (f y) (sym (slice_get-map_none f xs i none) ∙ ap (λ l. slice_get l i) alike ∙ slice_get-map f ys i y is))
