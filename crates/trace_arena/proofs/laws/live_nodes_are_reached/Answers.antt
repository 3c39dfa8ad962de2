use Rattle.std.proofs.Common.{List, ap, subst}
use Rattle.trace_arena.specs.Nodes.{Node}
use Rattle.trace_arena.specs.Whole.{IsWhole}
use Rattle.trace_arena.proofs.LiveLemmas.{live_from_reached, reached_from_live}
use Rattle.trace_arena.proofs.laws.live_nodes_are_reached.Goals as goal

pub returns : goal.returns
returns g c x =
    let whole : IsWhole c.args.arena.now.nodes = subst (λ (ns : List (Node _)). IsWhole ns) (ap (λ a. a.nodes) c.arena.view_is) c.arena.invariant in
    (reached_from_live c.args.arena.now.nodes whole x, live_from_reached c.args.arena.now.nodes whole x)
