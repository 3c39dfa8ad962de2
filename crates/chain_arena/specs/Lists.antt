-- Lists under numbers (this project).
use Rattle.std.specs.Prelude.{◌≡◌, ◌≢◌, ◌⊎◌, ℕ, List, [], ◌∷◌, Option, Some, None, ◌==◌, if◌then◌else◌, slice_index_or}

-- the list under a number, which is empty until something is added to it
abbrev pub list_at : List (List ℕ) → ℕ → List ℕ
list_at lists n = slice_index_or lists n []

-- it stands in the list
abbrev pub IsIn : ℕ → List ℕ → Type 0
IsIn x [] = ⊥
IsIn x (y ∷ ys) = (x ≡ y) ⊎ IsIn x ys

-- the first of a list
abbrev pub first_of : List ℕ → Option ℕ
first_of [] = None
first_of (x ∷ xs) = Some x

-- the one behind it in the list
abbrev pub after : ℕ → List ℕ → Option ℕ
after x [] = None
after x (y ∷ ys) = if x == y then first_of ys else after x ys

-- the list with it taken out
abbrev pub without : ℕ → List ℕ → List ℕ
without x [] = []
without x (y ∷ ys) = if x == y then ys else y ∷ without x ys

-- the list with each of these taken out
abbrev pub without_all : List ℕ → List ℕ → List ℕ
without_all [] xs = xs
without_all (x ∷ gone) xs = without_all gone (without x xs)

-- every number has the list that it had
abbrev pub SameLists : List (List ℕ) → List (List ℕ) → Type 0
SameLists old new = (n : ℕ) → list_at new n ≡ list_at old n

-- this number has this list, and every other number the list that it had
pub record Changes (old new : List (List ℕ)) (n : ℕ) (xs : List ℕ) : Type 0 where
  pub changed : list_at new n ≡ xs
  pub others : (m : ℕ) → m ≢ n → list_at new m ≡ list_at old m
