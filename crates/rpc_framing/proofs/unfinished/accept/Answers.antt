use Rattle.std.proofs.Common.{arith}
use Rattle.rpc_framing.proofs.Pieces.{Stands-grown, Brings-grown, Spoils-Dies}
use Rattle.rpc_framing.proofs.unfinished.accept.Goals as goal

pub returns-in_ok-grow-in-Within-clause-stands : goal.returns-in_ok-grow-in-Within-clause-stands
returns-in_ok-grow-in-Within-clause-stands c =
    let grown = c.in_ok-grow-in-Within.ensures in
    Stands-grown _ _ _ _ _ _ _ _ _ _ c.requires (grind arith) c.in-Within.ensures.1 c.in-Within.ensures.2 grown.header grown.body grown.stage

pub returns-in_ok-grow-in-Within-clause-reads : goal.returns-in_ok-grow-in-Within-clause-reads
returns-in_ok-grow-in-Within-clause-reads c =
    let grown = c.in_ok-grow-in-Within.ensures in
    Brings-grown _ _ _ _ _ _ _ _ _ _ c.requires
    (Stands-grown _ _ _ _ _ _ _ _ _ _ c.requires (grind arith) c.in-Within.ensures.1 c.in-Within.ensures.2 grown.header grown.body grown.stage)
    c.in-Within.ensures.1 grown.header grown.body

pub returns-in-Dead-clause-reads : goal.returns-in-Dead-clause-reads
returns-in-Dead-clause-reads c = Spoils-Dies _ _ _ _ _ _ _ c.requires c.in-Dead.ensures
