use Rattle.std.proofs.Common.{◌+◌, refl}
use Rattle.chain_arena.proofs.IndexLemmas.{IsIndex-grown, grown_within}
use Rattle.chain_arena.proofs.index.IndexLists.make_room.Goals as goal

pub invariant_of-self-2 : goal.invariant_of-self-2
invariant_of-self-2 c =
    let lens = grown_within _ _ _ _ c.extend_links-2.result (c.args.index + 1) c.in_ok-extend_links.ensures.long
    c.extend_links-2.ensures.long c.extend_links-2.ensures.kept c.self.invariant.enough in
    IsIndex-grown _ _ _ _ _ _ (λ n. refl) c.extend_links-2.ensures.same c.extend_links.ensures.same lens.0 lens.1 c.self.invariant
