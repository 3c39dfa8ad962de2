use Rattle.std.proofs.Common.{◌≡◌, ◌+◌, length}
use Rattle.macro_library.specs.Extents.{headed}
use Rattle.macro_library.proofs.ExtentLaws.{further}
use Rattle.macro_library.proofs.extent.first_plain.Given as goal

-- so many lines were passed, and what is found is so much further on than in those that are left
abbrev pub invariant-loop-left : goal.invariant-loop-left
invariant-loop-left l = (l.at + length l.left ≡ length l.lines) × (headed l.lines ≡ further l.at (headed l.left))

abbrev pub decreases-loop-left : goal.decreases-loop-left
decreases-loop-left l = length l.left
