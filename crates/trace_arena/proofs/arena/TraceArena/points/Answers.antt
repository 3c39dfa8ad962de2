use Rattle.std.proofs.Common.{ap}
use Rattle.trace_arena.proofs.CallLemmas.{points_read}
use Rattle.trace_arena.proofs.arena.TraceArena.points.Goals as goal

pub returns-clause-points : goal.returns-clause-points
returns-clause-points g c =
    points_read c.self.inside.slots.items _ (ap (λ a. a.nodes) c.self.view_is) c.self.invariant c.args.node.0 c.index.result.now c.requires.live c.index.ensures
