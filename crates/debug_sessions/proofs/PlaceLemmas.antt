-- The place of the element that passes a test.
use Rattle.std.proofs.Common.{◌≡◌, ◌∙◌, ℕ, zero, suc, ◌+◌, ◌<◌, ◌≤◌, Bool, true, false, not, cond, ltb, List, [], ◌∷◌, ◌++◌, length, take, drop, refl, sym, ap, Some, None, Option, arith, get_or}
use Rattle.std.specs.Prelude.{position, slice_get, slice_set, find, unwrap_or}
use Rattle.std.specs.List.{position_or_len, remove}
use Rattle.std.proofs.lemmas.List.Folds.{find_at}
use Rattle.std.proofs.lemmas.Bool.{ltb-true, ltb-false}
use Rattle.std.proofs.lemmas.Option.{slice_get_past, slice_get-get_or}
use Rattle.debug_sessions.specs.Places.{with_one, without_one}

one_more : (n : ℕ) → 1 + n ≡ suc n
one_more n = omega arith

module _ {X : Type 0} (p : X → Bool) where
  -- where an element passes, it is replaced at the first place
  set_first : (xs : List X) (x : X) → position_or_len p xs < length xs → slice_set xs (position_or_len p xs) x ≡ with_one p x xs
  set_first [] x there = absurd (omega arith)
  set_first (y ∷ ys) x there = by (p y) (λ less. set_first ys x less) there
    where
      by : (b : Bool) → (position_or_len p ys < length ys → slice_set ys (position_or_len p ys) x ≡ with_one p x ys) →
          cond (not b) (1 + position_or_len p ys) 0 < suc (length ys) →
          slice_set (y ∷ ys) (cond (not b) (1 + position_or_len p ys) 0) x ≡ cond b (x ∷ ys) (y ∷ with_one p x ys)
      by true behind less = refl
      by false behind less = ap (λ k. slice_set (y ∷ ys) k x) (one_more (position_or_len p ys)) ∙ ap (λ zs. y ∷ zs) (behind (omega arith))

  -- and taken out there
  remove_first : (xs : List X) → position_or_len p xs < length xs → remove xs (position_or_len p xs) ≡ without_one p xs
  remove_first [] there = absurd (omega arith)
  remove_first (y ∷ ys) there = by (p y) (λ less. remove_first ys less) there
    where
      by : (b : Bool) → (position_or_len p ys < length ys → remove ys (position_or_len p ys) ≡ without_one p ys) →
          cond (not b) (1 + position_or_len p ys) 0 < suc (length ys) →
          remove (y ∷ ys) (cond (not b) (1 + position_or_len p ys) 0) ≡ cond b ys (y ∷ without_one p ys)
      by true behind less = refl
      by false behind less = ap (remove (y ∷ ys)) (one_more (position_or_len p ys)) ∙ ap (λ zs. y ∷ zs) (behind (omega arith))

  -- where none passes, it is put behind all others
  push_first : (xs : List X) (x : X) → length xs ≤ position_or_len p xs → xs ++ x ∷ [] ≡ with_one p x xs
  push_first [] x none = refl
  push_first (y ∷ ys) x none = by (p y) (λ beyond. push_first ys x beyond) none
    where
      by : (b : Bool) → (length ys ≤ position_or_len p ys → ys ++ x ∷ [] ≡ with_one p x ys) →
          suc (length ys) ≤ cond (not b) (1 + position_or_len p ys) 0 → y ∷ (ys ++ x ∷ []) ≡ cond b (x ∷ ys) (y ∷ with_one p x ys)
      by true behind none = absurd (omega arith)
      by false behind none = ap (λ zs. y ∷ zs) (behind (omega arith))

  -- and none is taken out
  keep_all : (xs : List X) → length xs ≤ position_or_len p xs → xs ≡ without_one p xs
  keep_all [] none = refl
  keep_all (y ∷ ys) none = by (p y) (λ beyond. keep_all ys beyond) none
    where
      by : (b : Bool) → (length ys ≤ position_or_len p ys → ys ≡ without_one p ys) →
          suc (length ys) ≤ cond (not b) (1 + position_or_len p ys) 0 → y ∷ ys ≡ cond b ys (y ∷ without_one p ys)
      by true behind none = absurd (omega arith)
      by false behind none = ap (λ zs. y ∷ zs) (behind (omega arith))

  -- ---- by the place that was found

  place_is : (b : Bool) (n i : ℕ) → cond b (Some n) None ≡ Some i → (b ≡ true) × (n ≡ i)
  place_is true n i is = (refl, cc)
  place_is false n i is = absurd cc

  no_place : (b : Bool) (n : ℕ) → cond b (Some n) None ≡ None → b ≡ false
  no_place true n is = absurd cc
  no_place false n is = refl

  module _ (xs : List X) (i : ℕ) (at : position p xs ≡ Some i) where
    abbrev first : ℕ
    first = position_or_len p xs

    first_is : first ≡ i
    first_is = (place_is (ltb first (length xs)) first i at).1

    there : first < length xs
    there = ltb-true first (length xs) (place_is (ltb first (length xs)) first i at).0

    pub found_within : i < length xs
    found_within = omega (arith, first_is, there)

    pub found_at : slice_get xs i ≡ find p xs
    found_at = ap (slice_get xs) (sym first_is) ∙ sym (find_at p xs)

    -- or another one, where there is none
    pub found_or : (d : X) → slice_get xs i ≡ Some (unwrap_or (find p xs) d)
    found_or d =
        let e : slice_get xs i ≡ Some (get_or xs i d) = slice_get-get_or xs i d found_within in
        e ∙ ap Some (sym (ap (λ (o : Option X). unwrap_or o d) (sym found_at ∙ e)))

    pub set_at : (x : X) → slice_set xs i x ≡ with_one p x xs
    set_at x = ap (λ k. slice_set xs k x) (sym first_is) ∙ set_first xs x there

    pub remove_at : remove xs i ≡ without_one p xs
    remove_at = ap (remove xs) (sym first_is) ∙ remove_first xs there

  module _ (xs : List X) (at : position p xs ≡ None) where
    abbrev len : ℕ
    len = position_or_len p xs

    beyond : length xs ≤ len
    beyond = ltb-false len (length xs) (no_place (ltb len (length xs)) len at)

    pub none_found : find p xs ≡ None
    none_found = find_at p xs ∙ slice_get_past xs len beyond

    pub push_at : (x : X) → xs ++ x ∷ [] ≡ with_one p x xs
    push_at x = push_first xs x beyond

    pub none_removed : xs ≡ without_one p xs
    none_removed = keep_all xs beyond

-- what stands behind others, where it is replaced, and where it is taken out
pub get_last : {X : Type 0} (xs : List X) (x : X) → slice_get (xs ++ x ∷ []) (length xs) ≡ Some x
get_last [] x = refl
get_last (y ∷ ys) x = get_last ys x

pub set_last : {X : Type 0} (xs : List X) (x y : X) → slice_set (xs ++ x ∷ []) (length xs) y ≡ xs ++ y ∷ []
set_last [] x y = refl
set_last (z ∷ zs) x y = ap (λ ws. z ∷ ws) (set_last zs x y)

pub remove_last : {X : Type 0} (xs : List X) (x : X) → remove (xs ++ x ∷ []) (length xs) ≡ xs
remove_last [] x = refl
remove_last (y ∷ ys) x = ap (λ zs. y ∷ zs) (remove_last ys x)

-- what is taken out may have been replaced before
pub remove_set : {X : Type 0} (xs : List X) (i : ℕ) (x : X) → remove (slice_set xs i x) i ≡ remove xs i
remove_set [] i x = refl
remove_set (y ∷ ys) zero x = refl
remove_set (y ∷ ys) (suc i) x = ap (λ zs. y ∷ zs) (remove_set ys i x)
