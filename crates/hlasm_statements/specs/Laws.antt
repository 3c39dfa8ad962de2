-- What the statements of a text are to its lines. This project.
use Rattle.std.specs.Prelude.{◌≡◌, ℕ, ◌+◌, ◌≤◌, true, false, List, [], ◌∷◌, ◌++◌, ⊤}
use Rattle.hlasm_statements.specs.declared.statement.Statement.{Statement}
use Rattle.hlasm_statements.specs.Columns.{is_marked}
use Rattle.hlasm_statements.specs.Faults.{ends_marked}

-- statements whose lines follow on one another, from this line number on and up to that one
abbrev pub FollowOn : ℕ → List Statement → ℕ → Type 0
FollowOn number [] end = number ≡ end
FollowOn number (statement ∷ rest) end =
    (statement.first ≡ number) × (statement.first ≤ statement.last) × FollowOn (statement.last + 1) rest end

-- the lines of some groups, one after the other
abbrev pub lines_in : List (List (List ℕ)) → List (List ℕ)
lines_in [] = []
lines_in (group ∷ rest) = group ++ lines_in rest

-- some lines, of which every one but the last is marked
abbrev pub GoesOnInside : List (List ℕ) → Type 0
GoesOnInside [] = ⊥
GoesOnInside (line ∷ []) = ⊤
GoesOnInside (line ∷ next ∷ rest) = (is_marked line ≡ true) × GoesOnInside (next ∷ rest)

-- groups of lines, of which every one but the last ends with a line that is not marked
abbrev pub EndBetween : List (List (List ℕ)) → Type 0
EndBetween [] = ⊤
EndBetween (group ∷ []) = ⊤
EndBetween (group ∷ next ∷ rest) = (ends_marked group ≡ false) × EndBetween (next ∷ rest)

-- the last of some groups
abbrev pub last_group : List (List (List ℕ)) → List (List ℕ)
last_group [] = []
last_group (group ∷ []) = group
last_group (group ∷ next ∷ rest) = last_group (next ∷ rest)
