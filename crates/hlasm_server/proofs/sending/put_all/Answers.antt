use Rattle.hlasm_server.proofs.SendingLaws.{putting_goes_on}
use Rattle.hlasm_server.proofs.sending.put_all.Goals as goal

pub loop-left-preserved : goal.loop-left-preserved
loop-left-preserved g c =
    let put = c.in_ok-count.ensures in
    rw c.split_at.ensures.back (putting_goes_on _ _ _ _ _ _ _ _ c.in_ok-count.count c.loop-left.invariant put.held put.cause.later)
