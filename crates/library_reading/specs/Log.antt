-- What is said of the library in the log (this project).
use Rattle.std.specs.Prelude.{ℕ, Bool, true, false, List, [], ◌∷◌, ◌++◌, codes, if◌then◌else◌}

-- the lines that are said, and whether it was said already, in the message at hand, that the library is too large
pub record Log : Type 0 where
  pub lines : List (List ℕ)
  pub full : Bool

-- before anything is said
abbrev pub empty_log : Log
empty_log = record { lines = []; full = false }

-- a line: a path, and what is said of it
abbrev pub line_of : (path why : List ℕ) → List ℕ
line_of path why = path ++ (codes ": " ++ why)

-- something is said of a path
abbrev pub said : Log → (path why : List ℕ) → Log
said log path why = record log { lines = log.lines ++ line_of path why ∷ [] }

-- that the library is too large is said once a message
abbrev pub said_full : Log → Log
said_full log = if log.full then log else record { lines = log.lines ++ codes "library: LibraryTooLarge" ∷ []; full = true }

-- the lines were taken for output; what was said stays said
abbrev pub without_lines : Log → Log
without_lines log = record log { lines = [] }
