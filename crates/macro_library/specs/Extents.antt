-- Where a macro definition ends as it is written, and which statement is its prototype (HLASM Language Reference SC26-4940,
-- "Format of a macro definition", "Macro definition header", "Macro definition trailer", "Inner macro definitions").
use Rattle.std.specs.Prelude.{ℕ, ◌+◌, ◌==◌, ◌&&◌, Bool, false, List, [], ◌∷◌, take, drop, length, codes, Option, Some, None, option_map, encode_utf8_all, if◌then◌else◌}
use Rattle.std.specs.Str.{bytes_eq}
use Rattle.hl_base.specs.Symbols.{symbol_of}
use Rattle.macro_binding.specs.Prototypes.{name_of}
use Rattle.statement_listing.specs.Readings.{Reading, Instruction}
use Rattle.statement_listing.specs.Listings.{Listed, begins, begun_behind, ends, has_name, is_plain, processed}

-- how many definitions are begun and not ended behind a line, where so many are before it; a comment changes nothing
abbrev pub behind_reading : (begun : ℕ) → Option Reading → ℕ
behind_reading begun None = begun
behind_reading begun (Some reading) = begun_behind begun reading.instruction

abbrev pub behind : (begun : ℕ) → Listed → ℕ
behind begun one = behind_reading begun (processed one.statement)

-- whether an operation as it is written is such a one
abbrev pub is_read : (Instruction → Bool) → Option Reading → Bool
is_read test None = false
is_read test (Some reading) = test reading.instruction

-- whether a line is the MEND that ends the definition in which it stands, where so many inner ones are begun before it
abbrev pub closes : (begun : ℕ) → Listed → Bool
closes begun one = (begun == 0) && is_read ends (processed one.statement)

-- how many lines there are up to the MEND that ends the definition in which they stand, and the MEND; none where it has no MEND
abbrev pub line_count : (begun : ℕ) → List Listed → Option ℕ
line_count begun [] = None
line_count begun (one ∷ rest) = if closes begun one then Some 1 else option_map (λ n. n + 1) (line_count (behind begun one) rest)

-- the lines of a definition, of which so many are behind its MACRO; all that follow where no MEND ends it
abbrev pub counted : List Listed → Option ℕ → List Listed
counted rest None = rest
counted rest (Some count) = take count rest

-- the lines of a definition that these are behind the MACRO
abbrev pub extent : List Listed → List Listed
extent rest = counted rest (line_count 0 rest)

-- where processing goes on behind the definition whose MACRO has this number in a list
abbrev pub behind_definition : List Listed → (start : ℕ) → ℕ
behind_definition list start = start + 1 + length (extent (drop (start + 1) list))

-- the first line that is neither a comment nor blank, how many are before it, and those behind it
pub record Headed : Type 0 where
  pub at : ℕ
  pub line : Listed
  pub rest : List Listed

abbrev pub one_further : Headed → Headed
one_further headed = record { at = headed.at + 1; line = headed.line; rest = headed.rest }

abbrev pub headed : List Listed → Option Headed
headed [] = None
headed (one ∷ rest) =
    if is_plain one.statement.shape then Some (record { at = 0; line = one; rest = rest }) else option_map one_further (headed rest)

-- whether a line begins a definition
abbrev pub begins_at : Listed → Bool
begins_at one = is_read begins (processed one.statement)

-- the member that a line copies as it is written: none where its operand is no symbol
abbrev pub copy_named : (copies : Bool) → (operands : List ℕ) → Option (List ℕ)
copy_named copies operands = if copies then name_of operands else None

abbrev pub copied : Listed → Option (List ℕ)
copied one = copy_named (is_read (has_name (codes "COPY")) (processed one.statement)) one.statement.operands

-- whether this is the name of an operation
abbrev pub is_named : (operation : List ℕ) → Option (List ℕ) → Bool
is_named operation None = false
is_named operation (Some name) = bytes_eq name operation

-- whether a prototype has this operation
abbrev pub is_prototype_of : (operation : List ℕ) → Option Headed → Bool
is_prototype_of operation None = false
is_prototype_of operation (Some h) = is_named operation (name_of h.line.statement.op)

abbrev pub defining : (operation : List ℕ) → Option Headed → Option ℕ
defining operation None = None
defining operation (Some h) = if begins_at h.line && is_prototype_of operation (headed h.rest) then Some h.at else None

abbrev pub beginning : Option Headed → Option ℕ
beginning None = None
beginning (Some h) = if begins_at h.line then Some h.at else None

-- Where the definition of a member begins: at its first statement that is neither a comment nor blank, if that is MACRO.
abbrev pub macro_at : List Listed → Option ℕ
macro_at list = beginning (headed list)

-- A member defines an operation where its first statement that is neither a comment nor blank is MACRO, and the prototype
-- behind that has the operation, whatever else is wrong with it: then the number of the MACRO in the member's list.
abbrev pub defining_at : (operation : List ℕ) → List Listed → Option ℕ
defining_at operation list = defining operation (headed list)
