use Rattle.std.proofs.Common.{add-one, arith}
use Rattle.io_edge.proofs.Rings.{ring-suc, ring-again}
use Rattle.io_edge.proofs.memory_source.next_turn.Goals as goal

pub returns-then-turn-sizes-clause-turned : goal.returns-then-turn-sizes-clause-turned
returns-then-turn-sizes-clause-turned c =
    rw (add-one c.args.turn) (ring-suc c.args.sizes.now c.args.turn (omega arith))

pub returns-else-turn-sizes-clause-turned : goal.returns-else-turn-sizes-clause-turned
returns-else-turn-sizes-clause-turned c =
    ring-again c.args.sizes.now c.args.turn c.requires c.if-turn-sizes.false
