-- The index of members as the maps that hold it. No public clause cites this file but by `number_in`. This project.
use Rattle.std.specs.Prelude.{ℕ, ◌&&◌, List, Option, Some, if◌then◌else◌}
use Rattle.std.specs.Option.{option_map, option_and_then}
use Rattle.std.specs.Str.{bytes_eq}
use Rattle.std.specs.declared.string.String.{String}
use Rattle.std.specs.declared.alloc.Global.{Global}
use Rattle.std.specs.declared.hash.FoldHasher.{FoldHasher}
use Rattle.std.specs.declared.hash.BuildHasherDefault.{BuildHasherDefault}
use Rattle.indexmap.specs.IndexMap.{IndexMap, get_by_text}
use Rattle.hl_base.specs.declared.place.PathId.{PathId}
use Rattle.group_members.specs.declared.index.MemberIndex.{MemberIndex}

-- the numbers of paths, by the names of members
abbrev pub Names : Type 0
Names = IndexMap (String Global) PathId (BuildHasherDefault FoldHasher)

-- the member of a name, if there are members
abbrev pub named : List ℕ → Option Names → Option PathId
named name names = option_and_then (λ (held : Names). get_by_text held name) names

-- the number that an index has for a folder, by its bytes, and a name
abbrev pub number_in : MemberIndex → (folder name : List ℕ) → Option ℕ
number_in index folder name = option_map (λ (path : PathId). path.0) (named name (get_by_text index.folders folder))

-- the numbers once this one is put at a folder and a name
abbrev pub put : (folder name : List ℕ) → ℕ → (List ℕ → List ℕ → Option ℕ) → List ℕ → List ℕ → Option ℕ
put folder name number numbers f n = if bytes_eq folder f && bytes_eq name n then Some number else numbers f n
