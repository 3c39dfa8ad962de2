use Rattle.std.proofs.Common.{◌≡◌, ◌↔◌, length, map}
use Rattle.macro_library.specs.Contents.{written}
use Rattle.macro_library.proofs.content.same_lines.Given as goal

-- the whole lists are one where what is left of both is
abbrev pub invariant-loop-left : goal.invariant-loop-left
invariant-loop-left l = (map written l.left ≡ map written l.right) ↔ (map written l.one ≡ map written l.other)

abbrev pub decreases-loop-left : goal.decreases-loop-left
decreases-loop-left l = length l.left
