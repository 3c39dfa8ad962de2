-- Elements of a list that are known by a test, which at most one of them passes (this project).
use Rattle.std.specs.Prelude.{Bool, if◌then◌else◌, List, [], ◌∷◌}

-- the list with an element in the place of the one that passes the test, or behind all others where none does
abbrev pub with_one : {X : Type 0} → (X → Bool) → X → List X → List X
with_one test new [] = new ∷ []
with_one test new (x ∷ xs) = if test x then new ∷ xs else x ∷ with_one test new xs

-- the list without the element that passes the test
abbrev pub without_one : {X : Type 0} → (X → Bool) → List X → List X
without_one test [] = []
without_one test (x ∷ xs) = if test x then xs else x ∷ without_one test xs
