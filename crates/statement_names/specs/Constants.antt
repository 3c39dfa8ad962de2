-- Ordinary symbols in constants. HLASM Language Reference SC26-4940, "DC instruction", "Duplication factor", "Type",
-- "Length modifier". What is no constant is read as far as it goes.
use Rattle.std.specs.Prelude.{ℕ, zero, suc, ◌+◌, ◌==◌, ◌||◌, ◌&&◌, Bool, false, List, [], ◌∷◌, ◌++◌, length, take, drop, slice_index, Option, Some, None, is_some, if◌then◌else◌}
use Rattle.std.specs.List.{prefix_len}
use Rattle.std.specs.Char.{is_ascii_digit}
use Rattle.hl_base.specs.Quoting.{depth}
use Rattle.constant_table.specs.Types.{type_of, extended_by}
use Rattle.constant_table.specs.declared.constant_type.ConstantType.{ConstantType}
use Rattle.hlasm_statements.specs.declared.statement.Field.TheVariants.{Operands}
use Rattle.statement_names.specs.declared.name.WrittenName.{WrittenName}
use Rattle.statement_names.specs.declared.scan.Sought.TheVariants.{Symbols}
use Rattle.statement_names.specs.Names.{names}

-- the ordinary symbols in a text that stands behind so many characters of an operand field
abbrev pub symbols : (at : ℕ) → List ℕ → List WrittenName
symbols at text = names Symbols Operands at text

-- how many characters stand, with those before, up to the first one with which no parenthesis is open any more; none where
-- there is no such character
abbrev pub group_from : (before : List ℕ) → List ℕ → ℕ
group_from before [] = 0
group_from before (c ∷ rest) = if depth (c ∷ before) == 0 then length before + 1 else group_from (c ∷ before) rest

-- how many characters a number at the front of a text takes: digits, or what stands in parentheses (40) with both
abbrev pub amount_count : List ℕ → ℕ
amount_count [] = 0
amount_count (c ∷ rest) = if is_ascii_digit c then prefix_len is_ascii_digit (c ∷ rest) else (if c == 40 then group_from [] (c ∷ rest) else 0)

-- how many letters a type has that this text stands behind: two where it becomes another type with the next one
abbrev pub lengthened : ConstantType → List ℕ → ℕ
lengthened kind [] = 1
lengthened kind (c ∷ rest) = if is_some (extended_by c kind) then 2 else 1

-- how many letters the type has, if there is one
abbrev pub typed : Option ConstantType → List ℕ → ℕ
typed None rest = 0
typed (Some kind) rest = lengthened kind rest

-- how many letters the type has at the front of a text; none where there is no type
abbrev pub type_count : List ℕ → ℕ
type_count [] = 0
type_count (c ∷ rest) = typed (type_of c) rest

-- a number begins with a digit or a parenthesis
abbrev pub begins_amount : ℕ → Bool
begins_amount c = is_ascii_digit c || (c == 40)

-- an explicit length begins with L (76), in either case, and a number behind it
abbrev pub begins_length : List ℕ → Bool
begins_length [] = false
begins_length (c ∷ rest) = ((c == 76) || (c == 108)) && begins_amount (slice_index rest 0)

-- behind a number that stands at the front come other symbols; it is read apart
abbrev pub apart : (count at : ℕ) → List ℕ → List WrittenName
apart count at text = symbols at (take count text) ++ symbols (at + count) (drop count text)

-- the symbols of the length and the values, behind the type
abbrev pub behind_type : (at : ℕ) → List ℕ → List WrittenName
behind_type at text = if begins_length text then apart (amount_count (drop 1 text)) (at + 1) (drop 1 text) else symbols at text

-- those behind so many letters of a type; without a type all counts
abbrev pub behind_letters : (letters at : ℕ) → List ℕ → List WrittenName
behind_letters letters at text = if letters == 0 then symbols at text else behind_type (at + letters) (drop letters text)

-- the symbols of what stands behind the duplication factor
abbrev pub behind_factor : (at : ℕ) → List ℕ → List WrittenName
behind_factor at text = behind_letters (type_count text) at text

-- the symbols of the factor, and then those behind it
abbrev pub behind_amount : (count at : ℕ) → List ℕ → List WrittenName
behind_amount count at text = symbols at (take count text) ++ behind_factor (at + count) (drop count text)

-- the symbols of a constant: neither its type nor the letter of its length is one
unfoldable pub constant_symbols : (at : ℕ) → List ℕ → List WrittenName
constant_symbols at text = behind_amount (amount_count text) at text
