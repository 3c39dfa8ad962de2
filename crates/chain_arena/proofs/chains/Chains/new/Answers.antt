use Rattle.chain_arena.proofs.ChainLemmas.{HasLinks-empty}
use Rattle.chain_arena.proofs.chains.Chains.new.Goals as goal

pub invariant_of-result : goal.invariant_of-result
invariant_of-result g c = record {
  left = HasLinks-empty c.new.result _ c.new-2.result.lists c.new.ensures.empty c.new-2.ensures;
  right = HasLinks-empty c.new.result _ c.new-3.result.lists c.new.ensures.empty c.new-3.ensures;
}
