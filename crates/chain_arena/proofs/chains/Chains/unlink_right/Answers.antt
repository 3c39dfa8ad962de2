use Rattle.chain_arena.proofs.ClearLemmas.{Clearing-step}
use Rattle.chain_arena.proofs.ChainLemmas.{at_some, without_absent, HasLinks-elsewhere}
use Rattle.chain_arena.proofs.chains.Chains.unlink_right.Goals as goal

pub loop-link-preserved : goal.loop-link-preserved
loop-link-preserved g c =
    let live = c.in-Some.ensures.live in
    Clearing-step _ _ _ c.args.right c.in-Some.link.0 live.0 c.loop-link.invariant c.in-Some.ensures.first live.2
    (at_some _ live.0 _ live.1 c.unlink.ensures.unlinked)
    (λ n d. without_absent _ _ (HasLinks-elsewhere _ _ _ _ live.0 c.links_are_listed.ensures.left live.1 n d))
