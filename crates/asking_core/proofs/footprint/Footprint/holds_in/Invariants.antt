use Rattle.std.proofs.Common.{◌≡◌, drop}
use Rattle.asking_core.specs.Worlds.{Holds}
use Rattle.asking_core.specs.Places.{pairs_of}
use Rattle.asking_core.proofs.footprint.Footprint.holds_in.Given as goal

-- the world is as it was, and what is left holds where all does
abbrev pub invariant-loop-noted : goal.invariant-loop-noted
invariant-loop-noted g l = record {
  kept : g.W.World.state l.world ≡ g.W.World.state l.fn.world;
  from : Holds g.W.World.model (g.W.World.state l.fn.world) (pairs_of g.K.Kept.code g.V.Kept.code (drop l.noted-index l.noted-items))
      → Holds g.W.World.model (g.W.World.state l.fn.world) (pairs_of g.K.Kept.code g.V.Kept.code l.self);
  to : Holds g.W.World.model (g.W.World.state l.fn.world) (pairs_of g.K.Kept.code g.V.Kept.code l.self)
      → Holds g.W.World.model (g.W.World.state l.fn.world) (pairs_of g.K.Kept.code g.V.Kept.code (drop l.noted-index l.noted-items));
}
