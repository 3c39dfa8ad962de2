use Rattle.std.proofs.Common.{◌∙◌, ◌+◌, List, ℕ, sym, ap, subst, drop}
use Rattle.std.specs.Prelude.{Err, Ok, map}
use Rattle.conditional_fields.specs.declared.branch.Selector.{Selector}
use Rattle.conditional_fields.specs.Answers.{Says, behind_these, each}
use Rattle.conditional_fields.proofs.AnswerLaws.{behind-nothing, each-at, each-ends, each-past, each-stops}
use Rattle.statement_reading.specs.Branches.{pair}
use Rattle.statement_reading.specs.Views.{choice_of, choices_of}
use Rattle.statement_reading.proofs.AnswerLaws.{each-more}
use Rattle.statement_reading.proofs.condition.read_each.Goals as goal

pub loop-operand-init : goal.loop-operand-init
loop-operand-init c =
    let all = each pair c.args.operands.now in
    behind-nothing all ∙ ap (λ (done : List Selector). behind_these (map choice_of done) all) (sym c.new-pairs.ensures.items)

pub returns-in-Err : goal.returns-in-Err
returns-in-Err c =
    let all = c.args.operands.now in
    let i = c.loop-operand.operand-index in
    each-stops choice_of choices_of (each pair all) (map choice_of c.loop-operand.pairs.items) (pair c.operand-item.result) (each pair (drop (i + 1) all)) c.in-Err.fault
    (c.loop-operand.invariant ∙ ap (behind_these (map choice_of c.loop-operand.pairs.items)) (each-at pair all i c.operand-item.result c.loop-operand-test.true c.operand-item.is))
    (subst (λ (text : List ℕ). Says choice_of (pair text) (Err c.in-Err.fault)) c.as_str.ensures.characters c.in-Err.ensures)

pub loop-operand-preserved : goal.loop-operand-preserved
loop-operand-preserved c =
    let all = c.args.operands.now in
    let i = c.loop-operand.operand-index in
    each-more choice_of (each pair all) c.loop-operand.pairs.items (pair c.operand-item.result) (each pair (drop (i + 1) all)) c.in-Ok.pair
    (c.loop-operand.invariant ∙ ap (behind_these (map choice_of c.loop-operand.pairs.items)) (each-at pair all i c.operand-item.result c.loop-operand-test.true c.operand-item.is))
    (subst (λ (text : List ℕ). Says choice_of (pair text) (Ok c.in-Ok.pair)) c.as_str.ensures.characters c.in-Ok.ensures)
    ∙ ap (λ (done : List Selector). behind_these (map choice_of done) (each pair (drop (i + 1) all))) (sym c.in_ok-push-in-Ok.ensures)

pub returns : goal.returns
returns c =
    let all = c.args.operands.now in
    each-ends (each pair all) (map choice_of c.loop-operand.pairs.items)
    (c.loop-operand.invariant ∙ ap (behind_these (map choice_of c.loop-operand.pairs.items)) (each-past pair all c.loop-operand.operand-index c.loop-operand-test.false))
