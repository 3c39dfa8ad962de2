-- What the search for a place has left of a text, and how places are counted in bytes. No public clause cites this file.
-- This project.
use Rattle.std.specs.Prelude.{◌≡◌, ◌⊎◌, ℕ, zero, suc, ◌+◌, ◌<◌, ◌≤◌, Bool, true, ◌==◌, ◌||◌, ◌&&◌, not, nat_lt, slice_index, if◌then◌else◌, List, [], ◌∷◌, Option, None, Some, Result, Ok, Err, length, take, encode_utf8_all, chars}
use Rattle.std.specs.declared.string.String.{String}
use Rattle.std.specs.String.{string_bytes}
use Rattle.std.specs.Borrow.{Bor}
use Rattle.document_store.specs.Positions.{whole_lines, ends_line}
use Rattle.document_store.specs.declared.fault.StoreFault.{StoreFault}
use Rattle.document_store.specs.declared.fault.StoreFault.TheVariants.{BadRange, OutOfMemory}
use Rattle.std.specs.declared.alloc.Global.{Global}

-- the lines, each with its end, of what stands behind a line end; none where there was no end
abbrev pub lines_behind : Option (Bor (List ℕ)) → List (List ℕ)
lines_behind None = []
lines_behind (Some text) = whole_lines (chars text.now)

-- how many lines end in the first so many of a text's characters or bytes
abbrev pub line_ends : ℕ → List ℕ → ℕ
line_ends zero text = 0
line_ends (suc n) [] = 0
line_ends (suc n) (c ∷ rest) = (if ends_line c rest then 1 else 0) + line_ends n rest

-- how many bytes the first characters of a text take in UTF-8
abbrev pub bytes_before : List ℕ → ℕ → ℕ
bytes_before text characters = length (encode_utf8_all (take characters text))

-- whether a byte is a character by itself and ends no line
abbrev pub is_plain : ℕ → Bool
is_plain byte = nat_lt byte 128 && not (byte == 10 || byte == 13)

-- the first so many bytes of a text are such
pub record ArePlain (first : ℕ) (text : List ℕ) : Type 0 where
  pub within : first ≤ length text
  pub all : (at : ℕ) → at < first → is_plain (slice_index text at) ≡ true

-- a call gives the text that is asked, or the refusal that is; want of memory may come in place of either
abbrev pub GivesText : Result (List ℕ) StoreFault → Result (String Global) StoreFault → Type 0
GivesText asked (Ok text) = asked ≡ Ok (chars (string_bytes text))
GivesText asked (Err OutOfMemory) = Unit {0}
GivesText asked (Err fault) = asked ≡ Err fault

-- the refusal of the change of this number, or want of memory
abbrev pub IsBadRange : ℕ → StoreFault → Type 0
IsBadRange number fault = (fault ≡ BadRange number) ⊎ (fault ≡ OutOfMemory)
