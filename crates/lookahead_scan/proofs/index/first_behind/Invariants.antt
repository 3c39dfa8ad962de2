use Rattle.std.proofs.Common.{◌≡◌, length}
use Rattle.lookahead_scan.specs.Places.{first_behind}
use Rattle.lookahead_scan.proofs.index.first_behind.Given as goal

-- what is sought is found in those that are left as in all of them
abbrev pub invariant-loop-founds : goal.invariant-loop-founds
invariant-loop-founds l = first_behind l.after l.founds ≡ first_behind l.after l.initial.founds

abbrev pub decreases-loop-founds : goal.decreases-loop-founds
decreases-loop-founds l = length l.founds
