-- Lists from an index on.
use Rattle.std.proofs.Common.{◌≡◌, ℕ, ◌+◌, ◌≤◌, Bool, List, [], ◌∷◌, length, drop, take, ◌++◌, Some, None, zero, suc, refl, ap, ◌∙◌, slice_get, arith, cond, find, true, false, Result, Ok, Err, OnOk, IfOk}
use Rattle.std.specs.List.{remove}

later : {X : Type 0} (xs : List X) (y : X) (i : ℕ) → drop (i + 1) xs ≡ drop (suc i + 1) (y ∷ xs)
later xs y i = ap (λ k. drop k (y ∷ xs)) (let e : suc (i + 1) ≡ suc i + 1 = omega arith in e)

-- an element, and what follows
pub drop_some : {X : Type 0} (xs : List X) (i : ℕ) (x : X) → slice_get xs i ≡ Some x → drop i xs ≡ x ∷ drop (i + 1) xs
drop_some [] i x is = cc
drop_some (y ∷ xs) zero x is = let same : y ≡ x = cc in ap (λ z. z ∷ xs) same
drop_some (y ∷ xs) (suc i) x is = drop_some xs i x is ∙ ap (λ z. x ∷ z) (later xs y i)

-- no element, and nothing follows
pub drop_none : {X : Type 0} (xs : List X) (i : ℕ) → slice_get xs i ≡ None → drop i xs ≡ []
drop_none [] zero is = refl
drop_none [] (suc i) is = refl
drop_none (y ∷ xs) zero is = cc
drop_none (y ∷ xs) (suc i) is = drop_none xs i is

-- nothing is left from the end on
pub drop_all : {X : Type 0} (xs : List X) (i : ℕ) → length xs ≤ i → drop i xs ≡ []
drop_all [] zero few = refl
drop_all [] (suc i) few = refl
drop_all (x ∷ xs) zero few = absurd (let h = few in omega arith)
drop_all (x ∷ xs) (suc i) few = drop_all xs i (let h = few in omega arith)

-- the front of two lists is the first
pub take_front : {X : Type 0} (xs ys : List X) → take (length xs) (xs ++ ys) ≡ xs
take_front [] ys = refl
take_front (x ∷ xs) ys = ap (λ z. x ∷ z) (take_front xs ys)

-- the first that passes a test is found
pub find_first : {X : Type 0} (test : X → Bool) (x : X) (xs : List X) → test x ≡ true → find test (x ∷ xs) ≡ Some x
find_first test x xs passes = ap (λ b. cond b (Some x) (find test xs)) passes

-- one that does not is passed over
pub find_later : {X : Type 0} (test : X → Bool) (x : X) (xs : List X) → test x ≡ false → find test (x ∷ xs) ≡ find test xs
find_later test x xs fails = ap (λ b. cond b (Some x) (find test xs)) fails

-- what follows where a call succeeded
pub on_ok : {T E P Q : Type 0} (result : Result T E) → (P → Q) → OnOk result P → OnOk result Q
on_ok (Ok x) follows p = follows p
on_ok (Err e) follows p = tt

-- what follows of what succeeded
pub if_ok : {T E : Type 0} {P Q : T → Type 0} (result : Result T E) → ((x : T) → P x → Q x) → IfOk result P → IfOk result Q
if_ok (Ok x) follows p = follows x p
if_ok (Err e) follows p = tt

pub if_any : {T E : Type 0} {P : T → Type 0} (result : Result T E) → ((x : T) → P x) → IfOk result P
if_any (Ok x) all = all x
if_any (Err e) all = tt

-- without its first element a list is what follows
pub remove_first : {X : Type 0} (xs : List X) → remove xs 0 ≡ drop 1 xs
remove_first [] = refl
remove_first (x ∷ xs) = refl
