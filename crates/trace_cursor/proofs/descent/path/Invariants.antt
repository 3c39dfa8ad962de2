use Rattle.trace_arena.specs.Nodes.{node_at}
use Rattle.trace_cursor.specs.Pasts.{Follows}
use Rattle.trace_cursor.proofs.descent.path.Given as goal

-- the points of the node are points of the root, behind the items of these places
abbrev pub invariant-loop-inner : goal.invariant-loop-inner
invariant-loop-inner g l = Follows l.arena.nodes l.fn.root.0 l.fn.index l.node.0 l.rest l.places.items

abbrev pub decreases-loop-inner : goal.decreases-loop-inner
decreases-loop-inner g l = (node_at l.arena.nodes l.node.0).height
