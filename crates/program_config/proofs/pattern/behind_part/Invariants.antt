-- what is left of both is walked
use Rattle.std.proofs.Common.{◌≡◌, length}
use Rattle.program_config.specs.Patterns.{walked}
use Rattle.program_config.proofs.pattern.behind_part.Given as goal

abbrev pub invariant-loop-sign : goal.invariant-loop-sign
invariant-loop-sign l = walked l.initial.pattern l.initial.path ≡ walked l.pattern l.path

abbrev pub decreases-loop-sign : goal.decreases-loop-sign
decreases-loop-sign l = length l.pattern
