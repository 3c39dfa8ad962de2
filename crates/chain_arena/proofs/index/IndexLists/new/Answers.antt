use Rattle.chain_arena.proofs.IndexLemmas.{IsIndex-empty}
use Rattle.chain_arena.proofs.index.IndexLists.new.Goals as goal

pub invariant_of-result : goal.invariant_of-result
invariant_of-result c = rw (c.new.ensures.items, c.new-2.ensures.items, c.new-3.ensures.items) IsIndex-empty
