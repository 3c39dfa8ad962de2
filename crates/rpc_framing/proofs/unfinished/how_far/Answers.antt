use Rattle.rpc_framing.proofs.Pieces.{held_small, reaches_within, reaches_whole}
use Rattle.std.proofs.Common.{arith}
use Rattle.rpc_framing.proofs.unfinished.how_far.Goals as goal

pub overflow_sub-missing : goal.overflow_sub-missing
overflow_sub-missing c = let e = c.in-Whole.ensures in held_small _ _ _ _ _ c.requires e.1 e.2

pub returns-in-Open : goal.returns-in-Open
returns-in-Open c = let e = c.in-Open.ensures in reaches_within _ _ _ _ c.requires e.0 e.1

pub returns-else-piece-size : goal.returns-else-piece-size
returns-else-piece-size c = let e = c.in-Whole.ensures in reaches_whole _ _ _ _ _ _ c.requires e.0 e.1 e.2 (omega arith)
