-- The lines of a text and their width, on the list of its characters (Unicode scalar values).
-- Language Server Protocol 3.17, "Text Documents": a line ends by LF, CRLF or CR, and positions count UTF-16 units.
use Rattle.std.specs.Prelude.{ℕ, Bool, List, [], ◌∷◌, ◌==◌, ◌&&◌, if◌then◌else◌, nat_lt, slice_index, sum_by}
use Rattle.std.specs.List.{slice_split}

-- whether a character and what follows it begin with CR LF
abbrev pub begins_crlf : ℕ → List ℕ → Bool
begins_crlf c rest = (c == 13) && (slice_index rest 0 == 10)

-- the text with a LF for every line end: the CR of a CRLF vanishes, and any other CR becomes a LF
abbrev pub with_line_feeds : List ℕ → List ℕ
with_line_feeds [] = []
with_line_feeds (c ∷ rest) =
    if begins_crlf c rest then with_line_feeds rest else ((if c == 13 then 10 else c) ∷ with_line_feeds rest)

-- the lines of a text, each without its end: the parts between the line ends, so one more than there are ends
unfoldable pub lines : List ℕ → List (List ℕ)
lines text = slice_split (λ c. c == 10) (with_line_feeds text)

-- how many UTF-16 units a character takes
abbrev pub unit_width : ℕ → ℕ
unit_width c = if nat_lt c 65536 then 1 else 2

-- the width of a line in UTF-16 units
abbrev pub units : List ℕ → ℕ
units line = sum_by unit_width line
