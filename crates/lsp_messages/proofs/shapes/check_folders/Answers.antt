use Rattle.std.proofs.Common.{map, sym, ap, ◌∙◌}
use Rattle.std.proofs.Math.ListN.{drop_of_length-le}
use Rattle.std.proofs.lemmas.Result.{err_from_is_err_and}
use Rattle.serde_json.specs.View.{view}
use Rattle.lsp_messages.specs.Parameters.{all}
use Rattle.lsp_messages.specs.Shapes.{folder_in}
use Rattle.lsp_messages.proofs.ListLaws.{all-drop-ok, all-drop-err}
use Rattle.lsp_messages.proofs.shapes.check_folders.Goals as goal

pub returns-in_err-folder : goal.returns-in_err-folder
returns-in_err-folder c =
    let p = err_from_is_err_and c.from_residual.result c.from_residual.ensures.1 in
    rw (p.1, p.2)
    (sym (c.loop-element.invariant
    ∙ all-drop-err folder_in view _ _ _ _ c.loop-element-test.true c.element-item.is (sym c.in_err-folder.ensures)))

pub loop-element-preserved : goal.loop-element-preserved
loop-element-preserved c =
    c.loop-element.invariant
    ∙ all-drop-ok folder_in view _ _ _ _ c.loop-element-test.true c.element-item.is (sym c.in_ok-folder.ensures)

pub returns : goal.returns
returns c =
    sym (c.loop-element.invariant
    ∙ ap (λ rest. all folder_in (map view rest)) (drop_of_length-le _ c.loop-element-test.false))
