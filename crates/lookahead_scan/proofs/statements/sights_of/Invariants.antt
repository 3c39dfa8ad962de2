use Rattle.std.proofs.Common.{◌≡◌, ◌++◌, length}
use Rattle.lookahead_scan.specs.Statements.{sights, sights_from}
use Rattle.lookahead_scan.proofs.statements.sights_of.Given as goal

-- the statements so far, and then those that are left
abbrev pub invariant-loop-left : goal.invariant-loop-left
invariant-loop-left l = l.sights.items ++ sights_from l.opened l.left ≡ sights l.list

abbrev pub decreases-loop-left : goal.decreases-loop-left
decreases-loop-left l = length l.left
