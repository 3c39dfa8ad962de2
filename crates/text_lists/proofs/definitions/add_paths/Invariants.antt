use Rattle.std.proofs.Common.{◌≡◌, ◌++◌, map, take}
use Rattle.text_lists.specs.Definitions.{line_paths}
use Rattle.text_lists.proofs.definitions.add_paths.Given as goal

-- the paths of the statements so far are there
abbrev pub invariant-loop-line : goal.invariant-loop-line
invariant-loop-line l =
    map (λ p. p.0) l.paths.items ≡ map (λ p. p.0) l.initial.paths.items ++ line_paths (take l.line-index l.lines)
