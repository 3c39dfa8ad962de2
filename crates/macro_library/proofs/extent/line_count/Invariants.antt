use Rattle.std.proofs.Common.{◌≡◌, ◌+◌, length}
use Rattle.macro_library.specs.Extents.{line_count}
use Rattle.macro_library.proofs.ExtentLaws.{more}
use Rattle.macro_library.proofs.extent.line_count.Given as goal

-- so many lines were passed, and as many more are counted as in those that are left
abbrev pub invariant-loop-left : goal.invariant-loop-left
invariant-loop-left l =
    (l.count + length l.left ≡ length l.lines) × (line_count 0 l.lines ≡ more l.count (line_count l.begun l.left))

abbrev pub decreases-loop-left : goal.decreases-loop-left
decreases-loop-left l = length l.left
