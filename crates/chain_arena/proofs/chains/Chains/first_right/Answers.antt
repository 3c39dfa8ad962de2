use Rattle.std.proofs.Common.{sym}
use Rattle.chain_arena.proofs.ListLemmas.{first_in}
use Rattle.chain_arena.proofs.chains.Chains.first_right.Goals as goal

pub returns-in-Some-clause-live : goal.returns-in-Some-clause-live
returns-in-Some-clause-live g c =
    rw (← c.self.view_is) (c.self.invariant.right.live c.args.right c.in-Some.number (first_in _ c.in-Some.number (sym c.in-Some.ensures)))
