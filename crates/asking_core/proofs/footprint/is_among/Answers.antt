use Rattle.std.proofs.Common.{◌≡◌, true, false}
use Rattle.asking_core.proofs.FootprintSteps.{found, passed}
use Rattle.asking_core.proofs.footprint.is_among.Goals as goal

pub returns-then-same : goal.returns-then-same
returns-then-same g c =
    found g.K.Kept.code g.V.Kept.code c.args.pairs.now c.loop-noted.noted-index c.noted-item.result (g.K.Kept.code c.args.key.now) _
    c.loop-noted-test.true c.noted-item.is (c.same.ensures.0 c.if-same.true) c.loop-noted.invariant

pub loop-noted-preserved : goal.loop-noted-preserved
loop-noted-preserved g c =
    passed g.K.Kept.code g.V.Kept.code c.args.pairs.now c.loop-noted.noted-index c.noted-item.result (g.K.Kept.code c.args.key.now) _
    c.loop-noted-test.true c.noted-item.is
    (λ is. let same : c.same.result ≡ true = c.same.ensures.1 is in let other : c.same.result ≡ false = c.if-same.false in cc) c.loop-noted.invariant
