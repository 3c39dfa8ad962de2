-- Sequence symbols (HLASM Language Reference SC26-4940, "Sequence symbols"): a period and an ordinary symbol.
use Rattle.std.specs.Prelude.{ℕ, ◌+◌, ◌==◌, List, [], ◌∷◌, length, take_while, slice_index, min, Option, Some, None, Result, Ok, Err, encode_utf8_all, if◌then◌else◌}
use Rattle.hl_base.specs.Symbols.{is_letter, is_symbol_character, symbol_of}

-- how many letters and digits a text begins with
abbrev pub letter_count : List ℕ → ℕ
letter_count text = length (take_while is_symbol_character text)

-- how many characters of a text some ordinary symbol begins with
abbrev pub symbol_reach : List ℕ → ℕ
symbol_reach text = if is_letter (slice_index text 0) then min 63 (letter_count text) else 0

-- a name; or where it goes wrong
abbrev pub named_or : ℕ → Option (List ℕ) → Result (List ℕ) ℕ
named_or at None = Err at
named_or at (Some name) = Ok name

-- the name of a sequence symbol; or how many characters of a text some sequence symbol begins with
abbrev pub sequence : List ℕ → Result (List ℕ) ℕ
sequence [] = Err 0
sequence (c ∷ rest) = if c == 46 then named_or (symbol_reach rest + 1) (symbol_of (encode_utf8_all rest)) else Err 0
