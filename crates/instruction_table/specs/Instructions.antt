-- The machine instructions that are known: each mnemonic with its format, in the rows of the table that the code looks
-- into too. This project's profile of the z/Architecture Principles of Operation SA22-7832 and of the extended mnemonics
-- of the HLASM Language Reference SC26-4940; docs/INSTRUCTIONS.md shows the rows by format.
use Rattle.std.specs.Prelude.{ℕ, ◌-◌, Bool, List, [], ◌∷◌, ◌++◌, length, map, replicate, Option, Some, None, nat_eq, slice_get, if◌then◌else◌}
use Rattle.std.specs.Cmp.Lexicographic.{pointwise}
use Rattle.instruction_table.specs.declared.format.Format.{Format}
use Rattle.instruction_table.specs.declared.rows.Row.{Row}
use Rattle.instruction_table.specs.declared.rows.TheConstants.{FORMATS, INSTRUCTIONS}

-- whether two names are one
abbrev pub same_name : List ℕ → List ℕ → Bool
same_name = pointwise nat_eq

-- a name as a column of eight characters has it: with blanks behind it
unfoldable pub padded : List ℕ → List ℕ
padded name = name ++ replicate (8 - length name) 32

-- rows as mnemonics, each a column of eight characters, and formats
abbrev pub pairs : List Row → List (List ℕ × Option Format)
pairs rows = map (λ row. (row.mnemonic, slice_get FORMATS row.format)) rows

-- the format in a row, if the row is that of this mnemonic
abbrev pub format_beside : Row → List ℕ → Option Format
format_beside row mnemonic = if same_name row.mnemonic mnemonic then slice_get FORMATS row.format else None

-- the same where there may be no row
abbrev pub format_at : Option Row → List ℕ → Option Format
format_at None mnemonic = None
format_at (Some row) mnemonic = format_beside row mnemonic

-- the table: mnemonics and formats
unfoldable pub instructions : List (List ℕ × Option Format)
instructions = pairs INSTRUCTIONS

-- the format beside a name in such a list, if it is there
abbrev pub look_up : List ℕ → List (List ℕ × Option Format) → Option Format
look_up name [] = None
look_up name (row ∷ rows) = if same_name row.0 (padded name) then row.1 else look_up name rows
