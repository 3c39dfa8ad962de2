-- the edits so far, and then what is left
use Rattle.std.proofs.Common.{◌≡◌, map, drop}
use Rattle.serde_json.specs.View.{view}
use Rattle.lsp_messages.specs.Parameters.{each}
use Rattle.lsp_messages.specs.Shapes.{edit_in}
use Rattle.lsp_messages.proofs.ListLaws.{behind}
use Rattle.lsp_messages.proofs.shapes.edits_of.Given as goal

abbrev pub invariant-loop-change : goal.invariant-loop-change
invariant-loop-change l = each edit_in (map view l.changes) ≡ behind l.edits (each edit_in (map view (drop l.change-index l.changes)))
