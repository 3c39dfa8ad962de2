use Rattle.std.proofs.Common.{◌≡◌, ◌++◌, length}
use Rattle.macro_library.proofs.copying.left_of.Given as goal

-- the lines so far, and then the others
abbrev pub invariant-loop-more : goal.invariant-loop-more
invariant-loop-more l = l.left.items ++ l.more ≡ l.lines

abbrev pub decreases-loop-more : goal.decreases-loop-more
decreases-loop-more l = length l.more
