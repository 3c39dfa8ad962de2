-- Parameters as the map that holds them. No public clause cites this file. This project.
use Rattle.std.specs.Prelude.{List, map, string_bytes}
use Rattle.std.specs.declared.string.String.{String}
use Rattle.std.specs.declared.alloc.Global.{Global}
use Rattle.std.specs.declared.hash.FoldHasher.{FoldHasher}
use Rattle.std.specs.declared.hash.BuildHasherDefault.{BuildHasherDefault}
use Rattle.indexmap.specs.IndexMap.{IndexMap}
use Rattle.macro_binding.specs.declared.role.Role.{Role}
use Rattle.macro_binding.specs.Prototypes.{Parameter}

-- a parameter under its name
abbrev pub seen : String Global × Role → Parameter
seen entry = record { name = string_bytes entry.0; role = entry.1 }

-- the parameters that these entries are
abbrev pub parameters_from : List (String Global × Role) → List Parameter
parameters_from entries = map seen entries

-- the parameters that a map is
abbrev pub parameters_in : IndexMap (String Global) Role (BuildHasherDefault FoldHasher) → List Parameter
parameters_in roles = parameters_from roles.entries
