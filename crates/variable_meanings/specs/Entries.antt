-- Meanings as the map that holds them. No public clause cites this file. This project.
use Rattle.std.specs.Prelude.{List, map, string_bytes}
use Rattle.std.specs.declared.string.String.{String}
use Rattle.std.specs.declared.alloc.Global.{Global}
use Rattle.std.specs.declared.hash.FoldHasher.{FoldHasher}
use Rattle.std.specs.declared.hash.BuildHasherDefault.{BuildHasherDefault}
use Rattle.indexmap.specs.IndexMap.{IndexMap}
use Rattle.variable_meanings.specs.declared.meaning.Meaning.{Meaning}
use Rattle.variable_meanings.specs.Meanings.{Known}

-- a meaning under its name
abbrev pub seen : String Global × Meaning → Known
seen entry = record { name = string_bytes entry.0; meaning = entry.1 }

abbrev pub known_from : List (String Global × Meaning) → List Known
known_from entries = map seen entries

-- the meanings that a map holds
abbrev pub known_held : IndexMap (String Global) Meaning (BuildHasherDefault FoldHasher) → List Known
known_held meanings = known_from meanings.entries
