use Rattle.expansion_memo.proofs.Absorbed.{child_owned, absorbed}
use Rattle.expansion_memo.proofs.within.absorb.Goals as goal

pub release-requires : goal.release-requires
release-requires g c =
    record {
      owned = child_owned c.args.arena.now.nodes c.link.new.self.nodes c.link.new.self.nodes c.args.walk.now.node.0 c.args.child.now.node.0 c.requires.other c.requires.child c.in_ok-link.ensures.linked;
    }

pub returns-clause-absorbed : goal.returns-clause-absorbed
returns-clause-absorbed g c =
    absorbed c.args.arena.now.nodes c.link.new.self.nodes c.release.new.self.nodes c.args.walk.now.node.0 c.args.child.now.node.0 c.requires.other c.requires.child
    c.in_ok-link.ensures.linked (λ y live. (c.live_nodes_are_reached.ensures y).0 live) c.release.ensures.released
