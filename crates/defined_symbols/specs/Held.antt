-- Symbols as the set that holds them. No public clause cites this file. This project.
use Rattle.std.specs.Prelude.{ℕ, List, map, string_bytes}
use Rattle.std.specs.declared.string.String.{String}
use Rattle.std.specs.declared.alloc.Global.{Global}

-- the names that keys spell
abbrev pub spelled : List (String Global) → List (List ℕ)
spelled keys = map string_bytes keys
