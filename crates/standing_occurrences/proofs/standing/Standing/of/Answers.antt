use Rattle.standing_occurrences.proofs.PlaceLaws.{standing_next}
use Rattle.standing_occurrences.proofs.standing.Standing.of.Goals as goal

pub loop-occurrence-preserved : goal.loop-occurrence-preserved
loop-occurrence-preserved c =
    standing_next c.args.occurrences.now c.loop-occurrence.kept _ c.loop-occurrence.occurrence-index c.occurrence-item.result c.copy.result c.loop-occurrence.invariant
    c.loop-occurrence-test.true c.occurrence-item.is c.copy.ensures c.in_ok-push.ensures.ok
