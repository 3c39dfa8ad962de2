use Rattle.std.proofs.Common.{ap}
use Rattle.rpc_framing.proofs.Pieces.{bodies_of-joined}
use Rattle.rpc_framing.proofs.unfinished.take_up.Goals as goal

pub returns-clause-ready : goal.returns-clause-ready
returns-clause-ready c =
    bodies_of-joined _ _ _ _ _ _ c.push_back_reserved.ensures.items (ap (λ whole. whole.body.items) c.replace-whole.ensures.value)
    (rw c.unwrap.ensures at c.append.ensures.items)
