use Rattle.std.proofs.Common.{◌≡◌, ◌++◌}
use Rattle.trace_paths.specs.Touched.{numbers}
use Rattle.trace_paths.proofs.touched.listed.Given as goal

-- with the paths that are left, all are listed
abbrev pub invariant-loop-path : goal.invariant-loop-path
invariant-loop-path l = numbers l.paths ++ l.path-iterator ≡ l.met.keys
