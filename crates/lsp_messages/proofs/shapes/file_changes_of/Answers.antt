use Rattle.std.proofs.Common.{Result, Ok, Err, List, map, sym, ap, subst, append-nil, ◌∙◌}
use Rattle.std.proofs.lemmas.Result.{err_from_is_err_and}
use Rattle.std.proofs.Math.ListN.{drop_of_length-le}
use Rattle.serde_json.specs.View.{view}
use Rattle.lsp_messages.specs.declared.incoming.FileChange.{FileChange}
use Rattle.lsp_messages.specs.declared.parameters.Parameter.{Parameter}
use Rattle.json_view.specs.Answers.{Answers}
use Rattle.lsp_messages.specs.Parameters.{each, named_by}
use Rattle.lsp_messages.specs.Shapes.{file_change_in}
use Rattle.lsp_messages.proofs.ListLaws.{behind, behind-nil, behind-drop-ok, Answers-behind-drop}
use Rattle.lsp_messages.proofs.shapes.file_changes_of.Goals as goal

pub loop-element-init : goal.loop-element-init
loop-element-init c = rw c.new-changes.ensures (sym (behind-nil (each file_change_in (map view c.args.elements.now))))

pub returns-in_err-file_change : goal.returns-in_err-file_change
returns-in_err-file_change c =
    let p = err_from_is_err_and c.from_residual.result c.from_residual.ensures.1 in
    let refused : Result (List FileChange) Parameter → Type 0 = λ wanted. Answers {A = List FileChange} named_by (Err c.in_err-file_change.field-0.0) wanted in
    rw (p.1, p.2)
    (subst refused (sym c.loop-element.invariant)
    (Answers-behind-drop file_change_in view _ _ _ _ c.in_err-file_change.field-0.0 c.loop-element-test.true c.element-item.is c.in_err-file_change.ensures))

pub loop-element-preserved : goal.loop-element-preserved
loop-element-preserved c =
    rw c.in_ok-push.ensures.ok
    (c.loop-element.invariant
    ∙ behind-drop-ok file_change_in view _ _ _ _ _ c.loop-element-test.true c.element-item.is c.in_ok-file_change.ensures)

pub returns : goal.returns
returns c =
    c.loop-element.invariant
    ∙ ap (λ rest. behind c.loop-element.changes (each file_change_in (map view rest))) (drop_of_length-le _ c.loop-element-test.false)
    ∙ ap Ok (append-nil c.loop-element.changes)
