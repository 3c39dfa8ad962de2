use Rattle.std.proofs.Common.{Result, Ok, Err, List, map, sym, ap, subst, append-nil, ◌∙◌}
use Rattle.std.proofs.lemmas.Result.{err_from_is_err_and}
use Rattle.std.proofs.Math.ListN.{drop_of_length-le}
use Rattle.serde_json.specs.View.{view}
use Rattle.hl_base.specs.declared.edit.Edit.{Edit}
use Rattle.lsp_messages.specs.declared.parameters.Parameter.{Parameter}
use Rattle.json_view.specs.Answers.{Answers}
use Rattle.lsp_messages.specs.Parameters.{each, named_by}
use Rattle.lsp_messages.specs.Shapes.{edit_in}
use Rattle.lsp_messages.proofs.ListLaws.{behind, behind-nil, behind-drop-ok, Answers-behind-drop}
use Rattle.lsp_messages.proofs.shapes.edits_of.Goals as goal

pub loop-change-init : goal.loop-change-init
loop-change-init c = rw c.new-edits.ensures (sym (behind-nil (each edit_in (map view c.args.changes.now))))

pub returns-in_err-edit : goal.returns-in_err-edit
returns-in_err-edit c =
    let p = err_from_is_err_and c.from_residual.result c.from_residual.ensures.1 in
    let refused : Result (List Edit) Parameter → Type 0 = λ wanted. Answers {A = List Edit} named_by (Err c.in_err-edit.field-0.0) wanted in
    rw (p.1, p.2)
    (subst refused (sym c.loop-change.invariant)
    (Answers-behind-drop edit_in view _ _ _ _ c.in_err-edit.field-0.0 c.loop-change-test.true c.change-item.is c.in_err-edit.ensures))

pub loop-change-preserved : goal.loop-change-preserved
loop-change-preserved c =
    rw c.in_ok-push.ensures.ok
    (c.loop-change.invariant
    ∙ behind-drop-ok edit_in view _ _ _ _ _ c.loop-change-test.true c.change-item.is c.in_ok-edit.ensures)

pub returns : goal.returns
returns c =
    c.loop-change.invariant
    ∙ ap (λ rest. behind c.loop-change.edits (each edit_in (map view rest))) (drop_of_length-le _ c.loop-change-test.false)
    ∙ ap Ok (append-nil c.loop-change.edits)
