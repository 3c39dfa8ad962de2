use Rattle.std.proofs.Common.{◌≡◌, ◌++◌, length}
use Rattle.look_places.specs.Places.{numbers}
use Rattle.look_places.proofs.numbers.numbers_of.Given as goal

-- the numbers so far, and then those that are left
abbrev pub invariant-loop-left : goal.invariant-loop-left
invariant-loop-left l = l.found.items ++ numbers l.at l.left ≡ numbers 0 l.statements

abbrev pub decreases-loop-left : goal.decreases-loop-left
decreases-loop-left l = length l.left
