use Rattle.std.proofs.Common.{◌≡◌, drop, is_some}
use Rattle.kept_values.specs.Trees.{look_up}
use Rattle.asking_core.specs.Places.{pairs_of}
use Rattle.asking_core.proofs.footprint.is_among.Given as goal

-- what is left tells what all does
abbrev pub invariant-loop-noted : goal.invariant-loop-noted
invariant-loop-noted g l =
    is_some (look_up (pairs_of g.K.Kept.code g.V.Kept.code (drop l.noted-index l.pairs)) (g.K.Kept.code l.key))
    ≡ is_some (look_up (pairs_of g.K.Kept.code g.V.Kept.code l.pairs) (g.K.Kept.code l.key))
