-- what is left of both decides
use Rattle.std.proofs.Common.{◌≡◌, ◌+◌, length}
use Rattle.program_config.specs.Patterns.{behind_run, matches}
use Rattle.program_config.proofs.pattern.matches_behind_run.Given as goal

abbrev pub invariant-loop-left : goal.invariant-loop-left
invariant-loop-left l = behind_run (matches l.initial.pattern) l.initial.path ≡ behind_run (matches l.pattern) l.path

abbrev pub decreases-loop-left : goal.decreases-loop-left
decreases-loop-left l = length l.pattern + length l.path
