-- the values so far are those of the reports so far
use Rattle.std.proofs.Common.{◌≡◌, map, take}
use Rattle.serde_json.specs.View.{view}
use Rattle.lsp_messages.specs.Written.{diagnostic_value}
use Rattle.lsp_messages.proofs.writing.diagnostics_json.Given as goal

abbrev pub invariant-loop-diagnostic : goal.invariant-loop-diagnostic
invariant-loop-diagnostic l = map view l.values.items ≡ map diagnostic_value (take l.diagnostic-index l.diagnostics)
