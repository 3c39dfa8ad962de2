-- the changes so far, and then what is left
use Rattle.std.proofs.Common.{◌≡◌, map, drop}
use Rattle.serde_json.specs.View.{view}
use Rattle.lsp_messages.specs.Parameters.{each}
use Rattle.lsp_messages.specs.Shapes.{file_change_in}
use Rattle.lsp_messages.proofs.ListLaws.{behind}
use Rattle.lsp_messages.proofs.shapes.file_changes_of.Given as goal

abbrev pub invariant-loop-element : goal.invariant-loop-element
invariant-loop-element l = each file_change_in (map view l.elements) ≡ behind l.changes (each file_change_in (map view (drop l.element-index l.elements)))
