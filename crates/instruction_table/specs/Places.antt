-- Where the row of a mnemonic stands, if it has one: the places of the table are those of a perfect hash.
use Rattle.std.specs.Prelude.{ℕ, ◌+◌, ◌%◌, ◌==◌, ◌&&◌, Bool, true, List, [], ◌∷◌, length, slice_index}
use Rattle.std.specs.Int.{w64, from_be_bytes}
use Rattle.instruction_table.specs.declared.rows.Row.{Row}
use Rattle.instruction_table.specs.declared.rows.TheConstants.{PLACES, CLASSES, SHIFTS}

-- the place of the mnemonic whose eight characters are the digits of this number
abbrev pub place_by : ℕ → ℕ
place_by number = (number % PLACES + slice_index SHIFTS (number % CLASSES)) % PLACES

-- the place of a mnemonic, a column of eight characters
unfoldable pub place_of : List ℕ → ℕ
place_of mnemonic = place_by (from_be_bytes w64 mnemonic)

-- whether each of these rows, which stand from a place on, has eight characters and stands where its mnemonic belongs
abbrev pub are_placed : ℕ → List Row → Bool
are_placed place [] = true
are_placed place (row ∷ rows) = (length row.mnemonic == 8) && ((place_of row.mnemonic == place) && are_placed (place + 1) rows)
