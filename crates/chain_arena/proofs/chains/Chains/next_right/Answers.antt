use Rattle.std.proofs.Common.{sym, ap, ◌∙◌}
use Rattle.slab.specs.Slab.{get}
use Rattle.chain_arena.proofs.ChainLemmas.{value_of, after_in}
use Rattle.chain_arena.proofs.chains.Chains.next_right.Goals as goal

pub next-requires : goal.next-requires
next-requires g c =
    let this = value_of _ c.requires.live in
    record { listed = (this.0.right, c.self.invariant.right.listed c.args.link.0 this.0 (ap (λ s. get s.links c.args.link.0) c.self.view_is ∙ this.1)) }

pub returns-in-Some-clause-live : goal.returns-in-Some-clause-live
returns-in-Some-clause-live g c = λ this is.
    let here = ap (λ s. get s.links c.args.link.0) c.self.view_is ∙ is in
    let listed = c.self.invariant.right.listed c.args.link.0 this here in
    let found =
    c.self.invariant.right.live this.right c.in-Some.number
    (after_in c.args.link.0 c.in-Some.number _ (sym (c.in-Some.ensures this.right listed))) in
    (found.0, ap (λ s. get s.links c.in-Some.number) (sym c.self.view_is) ∙ found.1, found.2)
