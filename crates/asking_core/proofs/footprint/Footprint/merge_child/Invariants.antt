use Rattle.std.proofs.Common.{◌≡◌, drop}
use Rattle.asking_core.specs.Footprints.{merged}
use Rattle.asking_core.specs.Places.{pairs_of}
use Rattle.asking_core.proofs.footprint.Footprint.merge_child.Given as goal

-- what is left of the child brings what is noted to the whole
abbrev pub invariant-loop-noted : goal.invariant-loop-noted
invariant-loop-noted g l =
    merged (pairs_of g.K.Kept.code g.V.Kept.code l.self) (pairs_of g.K.Kept.code g.V.Kept.code (drop l.noted-index l.noted-items))
    ≡ merged (pairs_of g.K.Kept.code g.V.Kept.code l.initial.self) (pairs_of g.K.Kept.code g.V.Kept.code l.child)
