use Rattle.std.proofs.Common.{◌≡◌, Ok}
use Rattle.serde_json.specs.Find.{as_array}
use Rattle.serde_json.specs.View.{view, items_view}
use Rattle.json_view.proofs.ItemLaws.{list_of-items_view}
use Rattle.lsp_messages.specs.declared.parameters.Parameter.TheVariants.{Changes}
use Rattle.lsp_messages.specs.Parameters.{needed}
use Rattle.lsp_messages.proofs.shapes.file_changes.Goals as goal

pub returns : goal.returns
returns c =
    let is_list : Ok (items_view c.in_ok-list.field-0.now) ≡ needed as_array Changes (view c.args.params.now) = c.in_ok-list.ensures in
    rw (← is_list, list_of-items_view) c.file_changes_of.ensures
