use Rattle.std.proofs.Common.{◌≡◌, drop}
use Rattle.asking_core.specs.Worlds.{put_all}
use Rattle.asking_core.specs.Places.{pairs_of}
use Rattle.kept_outcomes.specs.Pairs.{newest_first}
use Rattle.kept_outcomes.proofs.summary.CallSummary.replay.Given as goal

-- what is left to be put makes of the present state what all makes of the first one
abbrev pub invariant-loop-put : goal.invariant-loop-put
invariant-loop-put g l =
    put_all g.W.World.model (g.W.World.state l.world) (newest_first (pairs_of g.K.Kept.code g.V.Kept.code (drop l.put-index l.puts)))
    ≡ put_all g.W.World.model (g.W.World.state l.initial.world) (newest_first (pairs_of g.K.Kept.code g.V.Kept.code l.puts))
