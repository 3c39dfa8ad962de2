use Rattle.std.proofs.Common.{◌≡◌, ◌++◌, map}
use Rattle.program_names.proofs.paths.listed.Given as goal

-- with the paths that are left, all are listed
abbrev pub invariant-loop-path : goal.invariant-loop-path
invariant-loop-path l = l.paths.items ++ map (λ n. record { 0 = n }) l.path-iterator ≡ map (λ n. record { 0 = n }) l.met.keys
