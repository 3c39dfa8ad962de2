-- The forms that never fail: what they hold, and what is held after a call (this project). Their count of faults is 0.
use Rattle.std.specs.Prelude.{ℕ, ◌+◌, ◌-◌, ◌^◌, min, List, ◌++◌, Bool, length, drop}
use Rattle.io_edge.specs.LibraryCall.{LibraryCall}
use Rattle.io_edge.specs.MemoryLibrary.{Folder, File}
use Rattle.io_edge.specs.MemorySource.{piece_limit, turned}

-- ---- a source

-- what such a source holds: the bytes not yet taken, the sizes of its pieces with the next one first, and the answers
-- of `waiting` still to come
pub record Stock : Type 0 where
  pub bytes : List ℕ
  pub sizes : List ℕ
  pub answers : List Bool

-- how many bytes a take gives
abbrev pub stock_len : Stock → ℕ → ℕ
stock_len stock room = min (piece_limit stock.sizes room) (length stock.bytes)

-- what is held after a take of so many bytes
abbrev pub after_stock : Stock → ℕ → Stock
after_stock stock count = record {
  bytes = drop count stock.bytes;
  sizes = turned stock.sizes;
  answers = stock.answers;
}

-- ---- a sink

-- how many bytes were taken after a piece, or the greatest u64
abbrev pub after_piece : ℕ → List ℕ → ℕ
after_piece taken piece = min (taken + length piece) (2 ^ 64 - 1)

-- ---- a library

-- what such a library holds: its folders, its files, and its calls so far with their answers
pub record Cabinet : Type 0 where
  pub folders : List Folder
  pub files : List File
  pub calls : List LibraryCall

-- what is held after a call that adds this to the calls
abbrev pub after_asked : Cabinet → List LibraryCall → Cabinet
after_asked cabinet calls = record {
  folders = cabinet.folders;
  files = cabinet.files;
  calls = cabinet.calls ++ calls;
}
