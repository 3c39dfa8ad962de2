use Rattle.std.proofs.Common.{length, sym, ap, subst, ◌∙◌}
use Rattle.trace_arena.specs.declared.node.NodeId.{NodeId}
use Rattle.trace_arena.specs.Nodes.{IsLive}
use Rattle.trace_arena.specs.Points.{points}
use Rattle.macro_debugger.proofs.debug.Debug.next_stop.Goals as goal

pub returns-clause-trace : goal.returns-clause-trace
returns-clause-trace c =
    let nodes = c.args.arena.now.nodes in
    record {
      live = subst (λ (root : NodeId). IsLive nodes root.0) (sym (ap (λ w. w.root) c.self.view_is)) c.requires.trace.live;
      whole =
          ap (λ (root : NodeId). length (points nodes root.0)) (ap (λ w. w.root) c.self.view_is)
          ∙ c.requires.trace.whole
          ∙ sym (ap (λ w. w.points) c.self.view_is);
    }
