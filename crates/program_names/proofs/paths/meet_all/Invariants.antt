use Rattle.std.proofs.Common.{◌≡◌, map, take}
use Rattle.program_names.specs.Paths.{with_paths}
use Rattle.program_names.proofs.paths.meet_all.Given as goal

-- the paths so far are met
abbrev pub invariant-loop-path : goal.invariant-loop-path
invariant-loop-path l = l.met.keys ≡ with_paths l.initial.met.keys (map (λ path. path.0) (take l.path-index l.paths))
