use Rattle.std.proofs.Common.{◌≡◌, ◌∙◌, true, false, Some, sym, ap}
use Rattle.call_knowledge.proofs.TellingLaws.{answer-found, answer-passed}
use Rattle.call_knowledge.proofs.surroundings.answered.Goals as goal

pub returns-then-same : goal.returns-then-same
returns-then-same c =
    ap Some c.told.ensures
    ∙ sym (
    c.loop-noted.invariant
    ∙ answer-found c.args.answers.now c.loop-noted.noted-index c.noted-item.result c.args.key.now c.loop-noted-test.true c.noted-item.is (c.same.ensures.0 c.if-same.true))

pub loop-noted-preserved : goal.loop-noted-preserved
loop-noted-preserved c =
    c.loop-noted.invariant
    ∙ answer-passed c.args.answers.now c.loop-noted.noted-index c.noted-item.result c.args.key.now c.loop-noted-test.true c.noted-item.is
    (λ is. let same : c.same.result ≡ true = c.same.ensures.1 is in let other : c.same.result ≡ false = c.if-same.false in cc)
