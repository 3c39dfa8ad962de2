-- How a text lies in two parts in one buffer. No public clause cites this file. This project.
use Rattle.std.specs.Prelude.{◌≤◌, ℕ, ◌-◌, List, length, take, drop, IsUtf8}
use Rattle.document_store.specs.Parts.{Parts}

-- the parts of a buffer: the first up to a place, the second from another on
abbrev pub parts_of : List ℕ → (end start : ℕ) → Parts
parts_of bytes end start = record { front = take end bytes; room = start - end; back = drop start bytes }

-- both parts are texts, and the first lies before the second
pub record AreParts (bytes : List ℕ) (end start : ℕ) : Type 0 where
  pub order : end ≤ start
  pub within : start ≤ length bytes
  pub front : IsUtf8 (take end bytes)
  pub back : IsUtf8 (drop start bytes)
