use Rattle.std.proofs.Common.{◌≡◌, length}
use Rattle.lookahead_scan.specs.Places.{first_end}
use Rattle.lookahead_scan.proofs.index.first_end.Given as goal

-- what is sought is found in those that are left as in all of them
abbrev pub invariant-loop-ends : goal.invariant-loop-ends
invariant-loop-ends l = first_end l.after l.ends ≡ first_end l.after l.initial.ends

abbrev pub decreases-loop-ends : goal.decreases-loop-ends
decreases-loop-ends l = length l.ends
