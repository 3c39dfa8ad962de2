use Rattle.rpc_framing.proofs.Pieces.{Goes-more, Dies-more}
use Rattle.rpc_framing.proofs.header.follow_header.Goals as goal

pub returns-in-None : goal.returns-in-None
returns-in-None c = Dies-more _ _ _ _ _ c.loop-size-test.true c.loop-size.invariant c.in_default.ensures c.in-None.ensures c.departure.ensures

pub loop-size-preserved : goal.loop-size-preserved
loop-size-preserved c = Goes-more _ _ _ _ _ c.loop-size-test.true c.loop-size.invariant c.in-Some-after.ensures
