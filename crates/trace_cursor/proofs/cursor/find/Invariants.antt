use Rattle.trace_arena.specs.Nodes.{node_at}
use Rattle.trace_cursor.specs.Places.{Comes}
use Rattle.trace_cursor.proofs.cursor.find.Given as goal

-- the points of the node are points of the root, within so many frames and calls
abbrev pub invariant-loop-inner : goal.invariant-loop-inner
invariant-loop-inner l = Comes l.arena.nodes l.root.0 l.index l.node.0 l.rest l.outer l.calls

abbrev pub decreases-loop-inner : goal.decreases-loop-inner
decreases-loop-inner l = (node_at l.arena.nodes l.node.0).height
