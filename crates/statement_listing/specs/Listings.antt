-- Lists of statements, what of them is processed, and where a branch goes (HLASM Language Reference SC26-4940, "Sequence
-- symbols", "Macro definition header", "Macro definition trailer").
use Rattle.std.specs.Prelude.{ℕ, ◌+◌, ◌-◌, ◌==◌, Bool, true, false, List, [], ◌∷◌, map, take, length, slice_get, codes, Option, Some, None, option_map, if◌then◌else◌}
use Rattle.std.specs.Str.{bytes_eq}
use Rattle.hl_base.specs.declared.place.Origin.{Origin}
use Rattle.hl_base.specs.declared.place.PathId.{PathId}
use Rattle.hlasm_statements.specs.declared.statement.Shape.{Shape}
use Rattle.hlasm_statements.specs.declared.statement.Shape.TheVariants as shape
use Rattle.hlasm_statements.specs.declared.statement.Statement.{Statement}
use Rattle.statement_reading.specs.Readings.{Reading, Instruction, known, read_statement}

-- a statement, and where it stands
pub record Listed : Type 0 where
  pub origin : Origin
  pub statement : Statement

-- a statement of the text of a path stands where its first line does
abbrev pub listed : PathId → Statement → Listed
listed path statement = record { origin = record { path = path; line = statement.first }; statement = statement }

-- the statements of the text of a path
abbrev pub listing_of : PathId → List Statement → List Listed
listing_of path statements = map (listed path) statements

-- a comment and a blank statement are not processed
abbrev pub is_plain : Shape → Bool
is_plain shape.Plain = true
is_plain other = false

-- how a statement is read, if it is processed
abbrev pub processed : Statement → Option Reading
processed statement = if is_plain statement.shape then Some (read_statement statement) else None

-- the lines that are processed
abbrev pub plain_lines : List Listed → List Listed
plain_lines [] = []
plain_lines (one ∷ rest) = if is_plain one.statement.shape then one ∷ plain_lines rest else plain_lines rest

-- their numbers in the list, where the first line has this number
abbrev pub plain_numbers : (first : ℕ) → List Listed → List ℕ
plain_numbers first [] = []
plain_numbers first (one ∷ rest) =
    if is_plain one.statement.shape then first ∷ plain_numbers (first + 1) rest else plain_numbers (first + 1) rest

-- the number of the line that is processed at a place
abbrev pub line_number : List Listed → (place : ℕ) → Option ℕ
line_number list place = slice_get (plain_numbers 0 list) place

-- the place at which processing goes on at the line of a number: as many lines before it are processed
abbrev pub place_at : List Listed → (line : ℕ) → ℕ
place_at list line = length (plain_lines (take line list))

-- a statement that is processed: where it stands, how it is read, and the sequence symbol by which a branch finds it
pub record Element : Type 0 where
  pub origin : Origin
  pub reading : Reading
  pub label : Option (List ℕ)

-- whether an operation as it is written has this name; one with variable symbols has none yet
abbrev pub has_name : List ℕ → Instruction → Bool
has_name name (known own op does lasting open_end body) = bytes_eq own name
has_name name other = false

-- whether a statement as it is written begins a macro definition
abbrev pub begins : Instruction → Bool
begins one = has_name (codes "MACRO") one

-- whether it ends one
abbrev pub ends : Instruction → Bool
ends one = has_name (codes "MEND") one

-- how many macro definitions are begun and not ended behind a statement, where so many are before it
abbrev pub begun_behind : ℕ → Instruction → ℕ
begun_behind begun one = if begins one then begun + 1 else (if ends one then begun - 1 else begun)

-- the label of a statement is found where no definition is begun before it: that of a MACRO is found, that of the MEND that
-- ends its definition is not
abbrev pub found_label : ℕ → Option (List ℕ) → Option (List ℕ)
found_label begun label = if begun == 0 then label else None

abbrev pub element : ℕ → Listed → Element
element begun one =
    let reading = read_statement one.statement in
    record { origin = one.origin; reading = reading; label = found_label begun reading.label }

-- the statements that are processed, in order, where so many definitions are begun before them
abbrev pub elements_from : ℕ → List Listed → List Element
elements_from begun [] = []
elements_from begun (one ∷ rest) =
    if is_plain one.statement.shape
    then element begun one ∷ elements_from (begun_behind begun (read_statement one.statement).instruction) rest
    else elements_from begun rest

abbrev pub elements : List Listed → List Element
elements list = elements_from 0 list

-- whether a branch to this sequence symbol finds a statement
abbrev pub is_labelled : List ℕ → Option (List ℕ) → Bool
is_labelled name None = false
is_labelled name (Some label) = bytes_eq name label

abbrev pub has_label : Element → List ℕ → Bool
has_label one name = is_labelled name one.label

-- the place of the first statement that a branch to this sequence symbol finds
abbrev pub place_of : List ℕ → List Element → Option ℕ
place_of name [] = None
place_of name (one ∷ rest) = if has_label one name then Some 0 else option_map (λ n. n + 1) (place_of name rest)

-- what is lent of a statement that is processed
pub record Lent : Type 0 where
  pub origin : Origin
  pub reading : Reading

abbrev pub lent : Element → Lent
lent one = record { origin = one.origin; reading = one.reading }
