use Rattle.std.proofs.Common.{◌≡◌, true, false}
use Rattle.kept_values.specs.Keys.{key_tree}
use Rattle.program_world.proofs.PairLaws.{place_here, place_passed}
use Rattle.program_world.proofs.puts.place_in.Goals as goal

pub returns-then-same : goal.returns-then-same
returns-then-same c =
    place_here c.args.pairs.now c.loop-place.place c.index-pairs-place.result (key_tree c.args.key.now)
    c.loop-place-test.true c.index-pairs-place.is (c.same.ensures.0 c.if-same.true) c.loop-place.invariant

pub loop-place-preserved : goal.loop-place-preserved
loop-place-preserved c =
    place_passed c.args.pairs.now c.loop-place.place c.index-pairs-place.result (key_tree c.args.key.now)
    c.loop-place-test.true c.index-pairs-place.is
    (λ is. let same : c.same.result ≡ true = c.same.ensures.1 is in let other : c.same.result ≡ false = c.if-same.false in cc) c.loop-place.invariant
