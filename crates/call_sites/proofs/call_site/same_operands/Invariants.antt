use Rattle.std.proofs.Common.{◌≡◌, ◌↔◌, length}
use Rattle.call_sites.proofs.call_site.same_operands.Given as goal

-- the whole lists are one where what is left of both is
abbrev pub invariant-loop-left : goal.invariant-loop-left
invariant-loop-left l = (l.left ≡ l.right) ↔ (l.one ≡ l.other)

abbrev pub decreases-loop-left : goal.decreases-loop-left
decreases-loop-left l = length l.left
