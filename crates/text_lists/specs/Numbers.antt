-- An index of the lines in which statements begin. No public clause cites this file. This project.
use Rattle.std.specs.Prelude.{◌≡◌, ℕ, ◌==◌, Bool, List, Option, Some, None, if◌then◌else◌}
use Rattle.std.specs.Map.{lookup}
use Rattle.statement_listing.specs.Listings.{Listed}
use Rattle.text_lists.specs.Lists.{number_in}

abbrev pub is_line : (line key : ℕ) → Bool
is_line line key = line == key

-- each line has the number of the first statement that begins in it
abbrev pub IsIndex : List (ℕ × ℕ) → List Listed → Type 0
IsIndex entries list = (line : ℕ) → lookup (is_line line) entries ≡ number_in line list

-- the number of a line, where a statement of this number more begins in this line: the first counts
abbrev pub noted : Option ℕ → (line begun number : ℕ) → Option ℕ
noted (Some earlier) line begun number = Some earlier
noted None line begun number = if line == begun then Some number else None
