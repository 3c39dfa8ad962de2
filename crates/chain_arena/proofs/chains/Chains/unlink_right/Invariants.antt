use Rattle.std.proofs.Common.{length}
use Rattle.chain_arena.specs.Lists.{list_at}
use Rattle.chain_arena.proofs.ClearLemmas.{Clearing}
use Rattle.chain_arena.proofs.chains.Chains.unlink_right.Given as goal

-- the links so far are taken out
abbrev pub invariant-loop-link : goal.invariant-loop-link
invariant-loop-link g l = Clearing l.initial.self l.self l.right

abbrev pub decreases-loop-link : goal.decreases-loop-link
decreases-loop-link g l = length (list_at l.self.rights l.right)
