use Rattle.asking_core.proofs.FootprintSteps.{found_at}
use Rattle.asking_core.proofs.footprint.is_at.Goals as goal

pub returns : goal.returns
returns g c = λ same.
    found_at g.K.Kept.code g.V.Kept.code c.args.pairs.now c.args.place c.index-pairs-place.result (g.K.Kept.code c.args.key.now)
    c.if-place-pairs.false c.index-pairs-place.is (let at = c.index-pairs-place.is in let h = c.same.ensures.0 same in cc)
