-- the folders that are left decide
use Rattle.std.proofs.Common.{◌≡◌, map, drop}
use Rattle.serde_json.specs.View.{view}
use Rattle.lsp_messages.specs.Parameters.{all}
use Rattle.lsp_messages.specs.Shapes.{folder_in}
use Rattle.lsp_messages.proofs.shapes.check_folders.Given as goal

abbrev pub invariant-loop-element : goal.invariant-loop-element
invariant-loop-element l = all folder_in (map view l.folders) ≡ all folder_in (map view (drop l.element-index l.folders))
