use Rattle.expansion_memo.proofs.Searching.{left, Searched}
use Rattle.expansion_memo.proofs.firsts.Firsts.is_listed.Given as goal

-- what is left are places of the number
abbrev pub invariant-loop-next : goal.invariant-loop-next
invariant-loop-next g l = Searched l.self.numbers l.number (λ j. ⊥) l.next

abbrev pub decreases-loop-next : goal.decreases-loop-next
decreases-loop-next g l = left l.next
