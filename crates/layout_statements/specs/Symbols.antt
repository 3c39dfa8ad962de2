-- Operands that are symbols (HLASM Language Reference SC26-4940, "EXTRN instruction", "ENTRY instruction"; where one cannot be
-- read, how many characters some symbol begins with is this project's).
use Rattle.std.specs.Prelude.{ℕ, ◌+◌, List, [], ◌∷◌, Option, Some, None, Result, Ok, Err, encode_utf8_all, map, min, if◌then◌else◌}
use Rattle.std.specs.List.{prefix_len}
use Rattle.hl_base.specs.Symbols.{is_letter, is_symbol_character, symbol_of}

-- how many characters some symbol begins with that has a letter before these: a symbol has 63 at most
abbrev pub front_behind : List ℕ → ℕ
front_behind rest = min (prefix_len is_symbol_character rest + 1) 63

-- how many characters of a text some symbol begins with
abbrev pub symbol_front : List ℕ → ℕ
symbol_front [] = 0
symbol_front (c ∷ rest) = if is_letter c then front_behind rest else 0

-- a symbol, or how far it can be read
abbrev pub symbol_by : Option (List ℕ) → List ℕ → Result (List ℕ) ℕ
symbol_by (Some name) text = Ok name
symbol_by None text = Err (symbol_front text)

abbrev pub symbol_reading : List ℕ → Result (List ℕ) ℕ
symbol_reading text = symbol_by (symbol_of (encode_utf8_all text)) text

-- each operand as a symbol; where there is no operand an empty one is read
abbrev pub symbol_readings : List (List ℕ) → List (Result (List ℕ) ℕ)
symbol_readings [] = Err 0 ∷ []
symbol_readings (operand ∷ operands) = map symbol_reading (operand ∷ operands)
