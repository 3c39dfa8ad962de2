-- The arena as its slots. No public clause cites this file. This project.
use Rattle.std.specs.Prelude.{List, map}
use Rattle.trace_arena.specs.declared.slot.Slot.{Slot}
use Rattle.trace_arena.specs.Nodes.{Node}

-- a slot as contracts see it
abbrev pub node_of : {I : Type 0} → Slot I → Node I
node_of slot = record {
  items = slot.items.items;
  links = slot.links.items;
  owners = slot.owners;
  height = slot.height;
  total = slot.total;
}

-- the nodes that these slots are
abbrev pub nodes_of : {I : Type 0} → List (Slot I) → List (Node I)
nodes_of slots = map node_of slots
