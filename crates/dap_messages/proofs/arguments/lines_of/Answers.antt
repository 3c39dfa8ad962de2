use Rattle.std.proofs.Common.{map, sym, ap, append-nil, ◌∙◌, Ok}
use Rattle.std.proofs.lemmas.Result.{err_from_is_err_and}
use Rattle.std.proofs.Math.ListN.{drop_of_length-le}
use Rattle.serde_json.specs.View.{view}
use Rattle.dap_messages.specs.Arguments.{each, line_in}
use Rattle.dap_messages.proofs.ListLaws.{behind, behind-nil, behind-drop-ok, behind-drop-err}
use Rattle.dap_messages.proofs.arguments.lines_of.Goals as goal

pub loop-breakpoint-init : goal.loop-breakpoint-init
loop-breakpoint-init c = rw c.new-lines.ensures (sym (behind-nil (each line_in (map view c.args.breakpoints.now))))

pub returns-in_err-line : goal.returns-in_err-line
returns-in_err-line c =
    let p = err_from_is_err_and c.from_residual.result c.from_residual.ensures.1 in
    rw (p.1, p.2)
    (c.loop-breakpoint.invariant
    ∙ behind-drop-err line_in view _ _ _ _ _ c.loop-breakpoint-test.true c.breakpoint-item.is (sym c.in_err-line.ensures))

pub loop-breakpoint-preserved : goal.loop-breakpoint-preserved
loop-breakpoint-preserved c =
    rw c.in_ok-push.ensures.ok
    (c.loop-breakpoint.invariant
    ∙ behind-drop-ok line_in view _ _ _ _ _ c.loop-breakpoint-test.true c.breakpoint-item.is (sym c.in_ok-line.ensures))

pub returns : goal.returns
returns c =
    c.loop-breakpoint.invariant
    ∙ ap (λ rest. behind c.loop-breakpoint.lines (each line_in (map view rest))) (drop_of_length-le _ c.loop-breakpoint-test.false)
    ∙ ap Ok (append-nil c.loop-breakpoint.lines)
