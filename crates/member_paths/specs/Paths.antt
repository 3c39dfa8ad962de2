-- The folder and the name of a file, the member that a file is, and where a folder of the configuration lies. This project.
-- A path is the list of its characters, and nothing in it is resolved.
use Rattle.std.specs.Prelude.{ℕ, ◌-◌, ◌==◌, Bool, List, ◌∷◌, ◌++◌, Option, length, take, slice_index, encode_utf8_all, if◌then◌else◌}
use Rattle.std.specs.List.{before_first, before_last, after_last}
use Rattle.hl_base.specs.Symbols.{symbol_of}

-- the character `/`
abbrev pub slash : ℕ
slash = 47

abbrev pub is_slash : ℕ → Bool
is_slash c = c == slash

-- the character `.`
abbrev pub is_period : ℕ → Bool
is_period c = c == 46

-- the folder of a file: what stands before the last `/` of its path
unfoldable pub folder_of : List ℕ → List ℕ
folder_of path = before_last is_slash path

-- the name of a file: what stands behind the last `/` of its path
unfoldable pub file_name_of : List ℕ → List ℕ
file_name_of path = after_last is_slash path

-- the name of the member that a file is: the file's name up to its first period, upper-cased, where that is an ordinary symbol
unfoldable pub member_name : List ℕ → Option (List ℕ)
member_name file_name = symbol_of (encode_utf8_all (before_first is_period file_name))

-- a path without the `/` at its end, if it has one
abbrev pub without_slash : List ℕ → List ℕ
without_slash path = if is_slash (slice_index path (length path - 1)) then take (length path - 1) path else path

-- a path as it was written, from the root where it does not begin with `/`
abbrev pub from_root : (root written : List ℕ) → List ℕ
from_root root written = if is_slash (slice_index written 0) then written else root ++ slash ∷ written

-- the path of a folder that the configuration names
unfoldable pub folder_path : (root written : List ℕ) → List ℕ
folder_path root written = without_slash (from_root root written)
