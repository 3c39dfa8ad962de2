use Rattle.std.proofs.Common.{◌≡◌, drop}
use Rattle.program_names.specs.Prototypes.{first_place}
use Rattle.program_names.proofs.prototypes.first_place.Given as goal

-- the first among those that are left is the first
abbrev pub invariant-loop-line : goal.invariant-loop-line
invariant-loop-line l = first_place (drop l.line-index l.lines) ≡ first_place l.lines
