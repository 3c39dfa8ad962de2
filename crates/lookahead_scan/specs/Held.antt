-- Labels that are held under their names. No public clause cites this file. This project.
use Rattle.std.specs.Prelude.{ℕ, List, [], Vec}
use Rattle.std.specs.Option.{option_map_or}
use Rattle.std.specs.HashMap.{HashMap, get_by_text}
use Rattle.std.specs.declared.string.String.{String}
use Rattle.std.specs.declared.alloc.Global.{Global}
use Rattle.std.specs.declared.hash.FoldHasher.{FoldHasher}
use Rattle.std.specs.declared.hash.BuildHasherDefault.{BuildHasherDefault}
use Rattle.lookahead_scan.specs.declared.index.Found.{Found}

-- the labels that are held under a name
abbrev pub held_under : HashMap (String Global) (Vec Found Global) (BuildHasherDefault FoldHasher) → List ℕ → List Found
held_under names name = option_map_or (λ held. held.items) (get_by_text names name) []
