use Rattle.std.proofs.Common.{◌∙◌, ◌+◌, List, ℕ, sym, ap, subst, drop}
use Rattle.std.specs.Prelude.{Err, Ok}
use Rattle.hl_base.specs.declared.set.Declaration.{Declaration}
use Rattle.conditional_fields.specs.Answers.{Says, each, behind_these}
use Rattle.conditional_fields.specs.Declarations.{declaration}
use Rattle.conditional_fields.proofs.AnswerLaws.{behind-nothing, each-goes, each-stops, each-ends, each-at, each-past}
use Rattle.conditional_fields.proofs.declaration.each_declaration.Goals as goal

pub loop-operand-init : goal.loop-operand-init
loop-operand-init c =
    let all = each (declaration c.args.kind c.args.global) c.args.operands.now in
    behind-nothing all ∙ ap (λ done. behind_these done all) (sym c.new-list.ensures)

pub returns-in-Err : goal.returns-in-Err
returns-in-Err c =
    let read = declaration c.args.kind c.args.global in
    let all = c.args.operands.now in
    let i = c.loop-operand.operand-index in
    each-stops (λ (d : Declaration). d) (λ (ds : List Declaration). ds) (each read all) c.loop-operand.list (read c.operand-item.result) (each read (drop (i + 1) all)) c.in-Err.fault
    (c.loop-operand.invariant ∙ ap (behind_these c.loop-operand.list) (each-at read all i c.operand-item.result c.loop-operand-test.true c.operand-item.is))
    (subst (λ (text : List ℕ). Says (λ (d : Declaration). d) (read text) (Err c.in-Err.fault)) c.as_str.ensures.characters c.in-Err.ensures)

pub loop-operand-preserved : goal.loop-operand-preserved
loop-operand-preserved c =
    let read = declaration c.args.kind c.args.global in
    let all = c.args.operands.now in
    let i = c.loop-operand.operand-index in
    each-goes (each read all) c.loop-operand.list (read c.operand-item.result) (each read (drop (i + 1) all)) c.in-Ok.one
    (c.loop-operand.invariant ∙ ap (behind_these c.loop-operand.list) (each-at read all i c.operand-item.result c.loop-operand-test.true c.operand-item.is))
    (subst (λ (text : List ℕ). Says (λ (d : Declaration). d) (read text) (Ok c.in-Ok.one)) c.as_str.ensures.characters c.in-Ok.ensures)
    ∙ ap (λ done. behind_these done (each read (drop (i + 1) all))) (sym c.in_ok-push-in-Ok.ensures.ok)

pub returns : goal.returns
returns c =
    let read = declaration c.args.kind c.args.global in
    let all = c.args.operands.now in
    each-ends (each read all) c.loop-operand.list
    (c.loop-operand.invariant ∙ ap (behind_these c.loop-operand.list) (each-past read all c.loop-operand.operand-index c.loop-operand-test.false))
