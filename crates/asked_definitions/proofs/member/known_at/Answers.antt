use Rattle.std.proofs.Common.{◌≡◌, ◌∙◌, true, false, sym}
use Rattle.asked_definitions.proofs.AnswerLaws.{noted-found, noted-passed}
use Rattle.asked_definitions.proofs.member.known_at.Goals as goal

pub returns-then-same : goal.returns-then-same
returns-then-same c =
    sym (
    c.loop-noted.invariant
    ∙ noted-found c.args.answers.now c.loop-noted.noted-index c.noted-item.result c.args.key.now c.loop-noted-test.true c.noted-item.is (c.same.ensures.0 c.if-same.true))

pub loop-noted-preserved : goal.loop-noted-preserved
loop-noted-preserved c =
    c.loop-noted.invariant
    ∙ noted-passed c.args.answers.now c.loop-noted.noted-index c.noted-item.result c.args.key.now c.loop-noted-test.true c.noted-item.is
    (λ is. let same : c.same.result ≡ true = c.same.ensures.1 is in let other : c.same.result ≡ false = c.if-same.false in cc)
