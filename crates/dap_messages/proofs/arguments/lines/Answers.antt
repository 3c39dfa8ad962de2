use Rattle.std.proofs.Common.{◌≡◌, Ok, Some}
use Rattle.std.specs.Prelude.{codes}
use Rattle.serde_json.specs.Find.{as_array}
use Rattle.serde_json.specs.View.{view, items_view}
use Rattle.json_view.specs.Members.{member_of, unless_missing}
use Rattle.json_view.proofs.ItemLaws.{list_of-items_view}
use Rattle.dap_messages.proofs.arguments.lines.Goals as goal

pub returns-in-Some : goal.returns-in-Some
returns-in-Some c =
    let is_given : Ok (Some (items_view c.in-Some.breakpoints.now)) ≡ unless_missing (member_of as_array (codes "breakpoints") (view c.args.arguments.now)) = rw c.in-Some.is at c.in_ok-breakpoints.ensures in
    rw (← is_given, list_of-items_view) c.lines_of.ensures
