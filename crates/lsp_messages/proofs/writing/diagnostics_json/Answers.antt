use Rattle.lsp_messages.specs.Written.{diagnostic_value}
use Rattle.lsp_messages.proofs.ListLaws.{map-next}
use Rattle.lsp_messages.proofs.writing.diagnostics_json.Goals as goal

pub loop-diagnostic-preserved : goal.loop-diagnostic-preserved
loop-diagnostic-preserved c =
    map-next diagnostic_value c.args.diagnostics.now c.loop-diagnostic.diagnostic-index c.diagnostic-item.result _ _ c.loop-diagnostic-test.true c.diagnostic-item.is
    c.loop-diagnostic.invariant (c.in_ok-values-2.ensures _ c.diagnostic_json.ensures)
