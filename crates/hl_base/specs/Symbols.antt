-- Ordinary symbols (HLASM Language Reference SC26-4940, "Symbols"). Each character of one is ASCII, so its bytes are
-- its characters.
use Rattle.std.specs.Prelude.{ℕ, List, [], ◌∷◌, ◌||◌, ◌&&◌, ◌==◌, Bool, false, not, length, nat_le, Option, Some, None, map, if◌then◌else◌}
use Rattle.std.specs.List.{list_all}
use Rattle.std.specs.Char.{is_ascii_alphabetic, is_ascii_digit, is_ascii_lowercase, to_ascii_uppercase}

-- `A` to `Z` in either case, `$`, `_`, `#`, `@`
abbrev pub is_letter : ℕ → Bool
is_letter c = is_ascii_alphabetic c || (c == 36 || (c == 95 || (c == 35 || c == 64)))

-- a letter or a digit
abbrev pub is_symbol_character : ℕ → Bool
is_symbol_character c = is_letter c || is_ascii_digit c

-- a letter and then letters or digits, at most 63 characters
abbrev pub is_symbol : List ℕ → Bool
is_symbol [] = false
is_symbol (c ∷ cs) = is_letter c && (list_all is_symbol_character cs && nat_le (length (c ∷ cs)) 63)

-- the name that a text spells, upper-cased, where it is an ordinary symbol
abbrev pub symbol_of : List ℕ → Option (List ℕ)
symbol_of text = if is_symbol text then Some (map to_ascii_uppercase text) else None

-- none of `a` to `z`: it is its own capital
abbrev pub is_no_small_letter : ℕ → Bool
is_no_small_letter c = not (is_ascii_lowercase c)
