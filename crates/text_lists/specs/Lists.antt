-- The statements of texts by the places where they stand (HLASM Language Reference SC26-4940, "Assembler language coding
-- conventions").
use Rattle.std.specs.Prelude.{◌≡◌, ℕ, ◌+◌, ◌==◌, Bool, List, [], ◌∷◌, ◌++◌, length, Option, Some, None, is_some, if◌then◌else◌}
use Rattle.std.specs.List.{All, find}
use Rattle.std.specs.Option.{option_and_then, option_map}
use Rattle.hl_base.specs.declared.place.Origin.{Origin}
use Rattle.hlasm_statements.specs.Statements.{field, places}
use Rattle.hlasm_statements.specs.declared.statement.Field.{Field}
use Rattle.hlasm_statements.specs.declared.statement.Statement.{Statement}
use Rattle.statement_listing.specs.Listings.{Listed}

-- the statements of the text of a path, by its number
pub record Source : Type 0 where
  pub path : ℕ
  pub list : List Listed

abbrev pub has_path : (path : ℕ) → Source → Bool
has_path path source = path == source.path

abbrev pub list_in : Source → List Listed
list_in source = source.list

-- the statements of the text of a path, if it is there
abbrev pub list_of : List Source → (path : ℕ) → Option (List Listed)
list_of texts path = option_map list_in (find (has_path path) texts)

-- texts, and one more of a path that has none yet
abbrev pub with_list : List Source → (path : ℕ) → List Listed → List Source
with_list texts path list = if is_some (list_of texts path) then texts else texts ++ record { path = path; list = list } ∷ []

-- whether a statement begins in a line
abbrev pub begins_in : (line : ℕ) → Listed → Bool
begins_in line one = line == one.origin.line

-- the number of the first statement that begins in a line, from 0
abbrev pub number_in : (line : ℕ) → List Listed → Option ℕ
number_in line [] = None
number_in line (one ∷ rest) = if begins_in line one then Some 0 else option_map (λ n. n + 1) (number_in line rest)

-- the same of the statement that begins at a place
abbrev pub number_at : List Source → Origin → Option ℕ
number_at texts origin = option_and_then (number_in origin.line) (list_of texts origin.path.0)

-- the statement that begins at a place, if one does
abbrev pub line_at : List Source → Origin → Option Listed
line_at texts origin = option_and_then (find (begins_in origin.line)) (list_of texts origin.path.0)

-- each character of each field of a statement has a place in the text
abbrev pub IsWhole : Statement → Type 0
IsWhole statement = (one : Field) → length (places statement one) ≡ length (field statement one)

abbrev pub AreWhole : List Listed → Type 0
AreWhole list = All (λ one. IsWhole one.statement) list
