use Rattle.chain_arena.proofs.ChainLemmas.{HasLinks-unlinked}
use Rattle.chain_arena.proofs.chains.Chains.unlink.Goals as goal

pub invariant_of-self : goal.invariant_of-self
invariant_of-self g c = record {
  left = HasLinks-unlinked _ _ (λ l. l.left) _ _ c.args.link.0 c.remove-left.result c.self.invariant.left c.remove-left.ensures.updates
      c.remove.ensures.changes c.remove.ensures.unlisted;
  right = HasLinks-unlinked _ _ (λ l. l.right) _ _ c.args.link.0 c.remove-left.result c.self.invariant.right c.remove-left.ensures.updates
      c.remove-2.ensures.changes c.remove-2.ensures.unlisted;
}
