use Rattle.std.proofs.Common.{◌≡◌, Ok, Some, ap, sym}
use Rattle.serde_json.specs.Find.{as_array}
use Rattle.serde_json.specs.View.{view, items_view}
use Rattle.json_view.proofs.ItemLaws.{list_of-items_view}
use Rattle.lsp_messages.specs.declared.parameters.Parameter.TheVariants.{WorkspaceFolders}
use Rattle.lsp_messages.specs.Shapes.{given}
use Rattle.lsp_messages.proofs.shapes.folders.Goals as goal

pub returns-in-Some : goal.returns-in-Some
returns-in-Some c =
    let is_given : Ok (Some (items_view c.in-Some.folders.now)) ≡ given as_array WorkspaceFolders (view c.args.params.now) = rw c.in-Some.is at c.in_ok-folders.ensures in
    rw (← is_given) (ap Ok (sym (list_of-items_view c.in-Some.folders.now)))
