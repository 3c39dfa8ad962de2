use Rattle.using_ranges.specs.Ranges.{IsBestBelow}
use Rattle.using_ranges.proofs.ranges.Ranges.cover.Given as goal

abbrev pub invariant-loop-register : goal.invariant-loop-register
invariant-loop-register l = IsBestBelow l.self l.section l.offset l.register l.best
