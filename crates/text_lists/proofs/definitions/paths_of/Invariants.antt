use Rattle.std.proofs.Common.{◌≡◌, ◌++◌, map}
use Rattle.std.specs.List.{flat_map}
use Rattle.indexmap.specs.IndexMap.{values}
use Rattle.text_lists.specs.Definitions.{line_paths}
use Rattle.text_lists.proofs.definitions.paths_of.Given as goal

-- with the lists that are left, the paths of all are there
abbrev pub invariant-loop-list : goal.invariant-loop-list
invariant-loop-list l =
    map (λ p. p.0) l.paths.items ++ flat_map line_paths l.list-iterator ≡ flat_map line_paths (values l.lists)
