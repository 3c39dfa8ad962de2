use Rattle.std.proofs.Common.{◌≡◌, Ok}
use Rattle.serde_json.specs.Find.{as_array}
use Rattle.serde_json.specs.View.{view, items_view}
use Rattle.json_view.proofs.ItemLaws.{list_of-items_view}
use Rattle.program_config.specs.declared.members.Member.TheVariants.{Programs}
use Rattle.program_config.specs.Members.{needed}
use Rattle.program_config.proofs.files.programs.Goals as goal

pub returns : goal.returns
returns c =
    let is_list : Ok (items_view c.in_ok-list.field-0.now) ≡ needed as_array Programs (view c.args.file.now) = c.in_ok-list.ensures in
    rw (← is_list, list_of-items_view) c.programs_among.ensures
