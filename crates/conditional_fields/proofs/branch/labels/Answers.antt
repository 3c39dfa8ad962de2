use Rattle.std.proofs.Common.{◌∙◌, ◌+◌, List, ℕ, sym, ap, subst, drop}
use Rattle.std.specs.Prelude.{Err, Ok}
use Rattle.conditional_fields.specs.Answers.{Says, each, behind_these}
use Rattle.conditional_fields.specs.Sequences.{sequence}
use Rattle.conditional_fields.proofs.AnswerLaws.{behind-nothing, each-goes, each-stops, each-ends, each-at, each-past}
use Rattle.conditional_fields.proofs.branch.labels.Goals as goal

pub loop-operand-init : goal.loop-operand-init
loop-operand-init c =
    let all = each sequence c.args.operands.now in
    behind-nothing all ∙ ap (λ done. behind_these done all) (sym c.new-names.ensures.items)

pub returns-in-Err : goal.returns-in-Err
returns-in-Err c =
    let all = c.args.operands.now in
    let i = c.loop-operand.operand-index in
    each-stops (λ (name : List ℕ). name) (λ (names : List (List ℕ)). names) (each sequence all) c.loop-operand.names.items (sequence c.operand-item.result) (each sequence (drop (i + 1) all)) c.in-Err.fault
    (c.loop-operand.invariant ∙ ap (behind_these c.loop-operand.names.items) (each-at sequence all i c.operand-item.result c.loop-operand-test.true c.operand-item.is))
    (subst (λ (text : List ℕ). Says (λ (name : List ℕ). name) (sequence text) (Err c.in-Err.fault)) c.as_str.ensures.characters c.in-Err.ensures)

pub loop-operand-preserved : goal.loop-operand-preserved
loop-operand-preserved c =
    let all = c.args.operands.now in
    let i = c.loop-operand.operand-index in
    each-goes (each sequence all) c.loop-operand.names.items (sequence c.operand-item.result) (each sequence (drop (i + 1) all)) c.in-Ok.name
    (c.loop-operand.invariant ∙ ap (behind_these c.loop-operand.names.items) (each-at sequence all i c.operand-item.result c.loop-operand-test.true c.operand-item.is))
    (subst (λ (text : List ℕ). Says (λ (name : List ℕ). name) (sequence text) (Ok c.in-Ok.name)) c.as_str.ensures.characters c.in-Ok.ensures)
    ∙ ap (λ done. behind_these done (each sequence (drop (i + 1) all))) (sym c.in_ok-push-in-Ok.ensures)

pub returns : goal.returns
returns c =
    let all = c.args.operands.now in
    each-ends (each sequence all) c.loop-operand.names.items
    (c.loop-operand.invariant ∙ ap (behind_these c.loop-operand.names.items) (each-past sequence all c.loop-operand.operand-index c.loop-operand-test.false))
