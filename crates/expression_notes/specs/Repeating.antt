-- What is said of a symbol once (this project): that it is not defined is one note for its name, however often its statement
-- uses it. All else is said as often as there is cause.
use Rattle.std.specs.Prelude.{ℕ, Bool, false, List, [], ◌∷◌, ◌++◌, if◌then◌else◌}
use Rattle.std.specs.List.{count_by, list_any}
use Rattle.std.specs.Str.{bytes_eq}
use Rattle.note_rows.specs.declared.row.Row.{Row}
use Rattle.note_rows.specs.declared.row.Row.TheVariants.{UndefinedSymbol}

-- whether a row says of this symbol that it is not defined
abbrev pub says_undefined : List ℕ → Row → Bool
says_undefined name (UndefinedSymbol other) = bytes_eq other name
says_undefined name other = false

-- whether that is said already
abbrev pub is_said : List Row → List ℕ → Bool
is_said given name = list_any (says_undefined name) given

-- a row that says again what was said already
abbrev pub is_repeated : List Row → Row → Bool
is_repeated given (UndefinedSymbol name) = is_said given name
is_repeated given other = false

-- what is left of some rows behind others that were given
abbrev pub once_behind : (given rows : List Row) → List Row
once_behind given [] = []
once_behind given (row ∷ rows) = if is_repeated given row then once_behind given rows else row ∷ once_behind (given ++ row ∷ []) rows

-- what is left of all
abbrev pub once : List Row → List Row
once rows = once_behind [] rows

-- how often some rows say of a symbol that it is not defined
abbrev pub times_said : List Row → List ℕ → ℕ
times_said given name = count_by (says_undefined name) given
