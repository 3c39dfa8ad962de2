-- One step within the items of a node.
use Rattle.std.proofs.Common.{◌≡◌, ◌+◌, ◌<◌, List, ap, ◌∙◌, arith}
use Rattle.std.specs.Prelude.{slice_get}
use Rattle.std.specs.Option.{option_map}
use Rattle.trace_values.specs.declared.item.TraceItem.{TraceItem}
use Rattle.trace_arena.specs.Nodes.{Node, node_at}
use Rattle.trace_arena.specs.Points.{points}
use Rattle.trace_cursor.specs.declared.cursor.Cursor.{Cursor}
use Rattle.trace_cursor.specs.Places.{called, StandsAt}

pub step_on : (nodes : List (Node TraceItem)) (c : Cursor) → StandsAt nodes c → c.at + 1 < c.stop →
    StandsAt nodes (record { root = c.root; index = c.index + 1; node = c.node; at = c.at + 1; stop = c.stop; outer = c.outer; calls = c.calls })
step_on nodes c stands more = record {
  calls = stands.calls;
  outer = stands.outer;
  level = stands.level;
  below = stands.below;
  live = stands.live;
  inside = more;
  ends = stands.ends;
  room = omega (arith, stands.room, more);
  run = λ k less.
      let e : c.index + 1 + k ≡ c.index + (1 + k) = omega arith in
      let d : c.at + (1 + k) ≡ c.at + 1 + k = omega arith in
      ap (slice_get (points nodes c.root.0)) e
      ∙ stands.run (1 + k) (omega (arith, less))
      ∙ ap (λ n. option_map (called stands.calls) (slice_get (node_at nodes c.node.0).items n)) d;
}
