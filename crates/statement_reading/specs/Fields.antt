-- How name entry and operands of a generated statement are read (HLASM Language Reference SC26-4940, "Model statements"). An
-- entry without an ampersand stays as it is written for good.
use Rattle.std.specs.Prelude.{ℕ, Bool, false, List, [], Result, Ok, Err, if◌then◌else◌}
use Rattle.hlasm_statements.specs.Fields.{ends_quoted}
use Rattle.conditional_fields.specs.Endings.{field_of}
use Rattle.statement_reading.specs.Templates.{Part, template, has_ampersand}

-- an entry as it is written, or with variable symbols
pub data Entry : Type 0 where
  written : (text : List ℕ) → Entry
  varying : (parts : List Part) → Entry

-- name entry and operands, and whether operands as they are written end within quotes
pub record Fields : Type 0 where
  pub label : Entry
  pub operands : Entry
  pub open_end : Bool

-- the parts of an entry
abbrev pub varied : Result (List Part) ℕ → Result Entry ℕ
varied (Ok parts) = Ok (varying parts)
varied (Err at) = Err at

-- an entry of a text, which is this where the text has no ampersand
abbrev pub entry : (text as_written : List ℕ) → Result Entry ℕ
entry text as_written = if has_ampersand text then varied (template text) else Ok (written as_written)

-- whether operands as they are written end within quotes
abbrev pub ends_open : Entry → Bool
ends_open (written text) = ends_quoted text
ends_open (varying parts) = false

-- whether operands without an ampersand end within quotes, also where the name entry cannot be read
abbrev pub open_as_written : List ℕ → Bool
open_as_written operands = if has_ampersand operands then false else ends_quoted (field_of operands)

-- both entries, or the first that is wrong
abbrev pub both : Result Entry ℕ → Result Entry ℕ → Result Fields ℕ
both (Ok label) (Ok operands) = Ok (record { label = label; operands = operands; open_end = ends_open operands })
both (Ok label) (Err at) = Err at
both (Err at) operands = Err at

-- a name entry alone
abbrev pub alone : (label : List ℕ) → Result Fields ℕ
alone label = both (entry label label) (Ok (written []))

-- Name entry and operands. Of operands as they are written all before a blank outside quotes belongs to the operand field.
abbrev pub fields : (label operands : List ℕ) → Result Fields ℕ
fields label operands = both (entry label label) (entry operands (field_of operands))
