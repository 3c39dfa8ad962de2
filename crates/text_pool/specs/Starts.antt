-- Where the lines of a text begin, in bytes. No public clause cites this file. This project.
use Rattle.std.specs.Prelude.{◌≡◌, ℕ, ◌<◌, List, length, drop, slice_index}
use Rattle.std.specs.Str.{chars, IsCharBoundary}
use Rattle.hl_base.specs.Texts.{lines}

-- a line begins at this byte: what stands from there on are the lines from it on
pub record BeginsAt (bytes : List ℕ) (line start : ℕ) : Type 0 where
  pub cut : IsCharBoundary bytes start
  pub rest : lines (chars (drop start bytes)) ≡ drop line (lines (chars bytes))

-- where the first lines of a text begin, at least one of them
pub record AreStarts (bytes starts : List ℕ) : Type 0 where
  pub some : 0 < length starts
  pub each : (line : ℕ) → line < length starts → BeginsAt bytes line (slice_index starts line)
