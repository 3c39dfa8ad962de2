-- What the iterator over lines has left, and where it cuts. This project.
use Rattle.std.specs.Prelude.{ℕ, Bool, ◌||◌, ◌==◌, List, [], Option, None, Some, chars}
use Rattle.std.specs.Borrow.{Bor}
use Rattle.hl_base.specs.Texts.{lines}

-- the lines of what stands behind a line end; none where there was no end
abbrev pub lines_of : Option (Bor (List ℕ)) → List (List ℕ)
lines_of None = []
lines_of (Some text) = lines (chars text.now)

-- whether a line ends at this character: a LF or a CR
abbrev pub ends_line : ℕ → Bool
ends_line c = (c == 10) || (c == 13)
