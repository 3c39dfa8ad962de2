use Rattle.std.proofs.Common.{◌≡◌}
use Rattle.expansion_memo.specs.Entries.{kept_of}
use Rattle.expansion_memo.proofs.Searching.{left, Searched}
use Rattle.expansion_memo.proofs.KeptLists.{HoldsFirst}
use Rattle.expansion_memo.proofs.table.Table.find.Given as goal

-- the world is as it was, and with the first keys that were looked at none holds
abbrev pub invariant-loop-next : goal.invariant-loop-next
invariant-loop-next g l = record {
  kept : g.W.World.state l.world ≡ g.W.World.state l.fn.world;
  searched : Searched l.self-inside.firsts.numbers l.start
      (HoldsFirst g.W.World.model (g.W.World.state l.fn.world) l.fuel l.depth (g.C.Kept.code l.call) (kept_of g.C.Kept.code l.self-inside.entries.items)
      l.self-inside.firsts.numbers l.self-inside.firsts.keys) l.next;
}

abbrev pub decreases-loop-next : goal.decreases-loop-next
decreases-loop-next g l = left l.next
