-- Patterns of paths (the Che4z HLASM plug-in): `*` stands for any run of characters without `/`, and every other character
-- for itself. Patterns and paths are seen by their bytes: both signs are one byte each, which no other character has.
use Rattle.std.specs.Prelude.{ℕ, List, [], ◌∷◌, Bool, true, false, not, ◌&&◌, ◌||◌, ◌==◌, if◌then◌else◌, Option, Some, None}

-- the byte of `*`
abbrev pub star : ℕ
star = 42

-- the byte of `/`
abbrev pub slash : ℕ
slash = 47

-- a text that begins with this byte and goes on in this way
abbrev pub begins : ℕ → (List ℕ → Bool) → List ℕ → Bool
begins byte rest [] = false
begins byte rest (c ∷ cs) = (c == byte) && rest cs

-- a text that goes on in this way behind a run of bytes without `/`
abbrev pub behind_run : (List ℕ → Bool) → List ℕ → Bool
behind_run rest [] = rest []
behind_run rest (c ∷ cs) = rest (c ∷ cs) || (not (c == slash) && behind_run rest cs)

-- whether nothing is left
abbrev pub is_end : List ℕ → Bool
is_end [] = true
is_end (c ∷ cs) = false

-- whether a pattern matches a whole path
abbrev pub matches : List ℕ → List ℕ → Bool
matches [] path = is_end path
matches (p ∷ ps) path = if p == star then behind_run (matches ps) path else begins p (matches ps) path

-- what is left of a pattern and a path behind a star of the pattern, where the path begins with what stands before it; no
-- more where there is no star and the path is what the pattern says
abbrev pub walked : List ℕ → List ℕ → Option (Option (List ℕ × List ℕ))
walked [] [] = Some None
walked [] (c ∷ cs) = None
walked (p ∷ ps) [] = if p == star then Some (Some (ps, [])) else None
walked (p ∷ ps) (c ∷ cs) = if p == star then Some (Some (ps, c ∷ cs)) else (if c == p then walked ps cs else None)
