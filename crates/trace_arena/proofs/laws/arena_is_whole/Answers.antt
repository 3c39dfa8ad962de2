use Rattle.std.proofs.Common.{List, ap, subst}
use Rattle.trace_arena.specs.Nodes.{Node}
use Rattle.trace_arena.specs.Whole.{IsWhole}
use Rattle.trace_arena.proofs.PointLemmas.{points_woven, points_length}
use Rattle.trace_arena.proofs.laws.arena_is_whole.Goals as goal

pub returns-clause-whole : goal.returns-clause-whole
returns-clause-whole g c = subst (λ (ns : List (Node _)). IsWhole ns) (ap (λ a. a.nodes) c.arena.view_is) c.arena.invariant

pub returns-clause-woven : goal.returns-clause-woven
returns-clause-woven g c x =
    let whole : IsWhole c.args.arena.now.nodes = subst (λ (ns : List (Node _)). IsWhole ns) (ap (λ a. a.nodes) c.arena.view_is) c.arena.invariant in
    points_woven c.args.arena.now.nodes whole.below x

pub returns-clause-counted : goal.returns-clause-counted
returns-clause-counted g c x =
    let whole : IsWhole c.args.arena.now.nodes = subst (λ (ns : List (Node _)). IsWhole ns) (ap (λ a. a.nodes) c.arena.view_is) c.arena.invariant in
    points_length c.args.arena.now.nodes whole x
