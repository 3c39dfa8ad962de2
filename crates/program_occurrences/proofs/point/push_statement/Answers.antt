use Rattle.std.proofs.Common.{◌≡◌, ◌∙◌, ◌++◌, ap, sym, Option}
use Rattle.std.specs.List.{fold}
use Rattle.hl_base.specs.declared.place.PathId.{PathId}
use Rattle.running_calls.specs.Calls.{held}
use Rattle.standing_occurrences.specs.Standing.{with_first}
use Rattle.program_occurrences.specs.Labels.{of_calls}
use Rattle.program_occurrences.specs.Occurrences.{of_called, of_names_in, of_taken, start_in}
use Rattle.program_occurrences.specs.Operations.{member_taken, used_by}
use Rattle.program_occurrences.specs.Views.{situation_of}
use Rattle.program_occurrences.proofs.PushLaws.{pushed-four}
use Rattle.program_occurrences.proofs.point.push_statement.Goals as goal

pub returns : goal.returns
returns g c =
    let texts = c.args.texts.now in
    let definitions = c.args.definitions.now in
    let members = g.P.Present.members c.args.present.now in
    let here = situation_of c.args.met.now in
    let item = c.args.item.now in
    let statement = c.args.statement.now in
    let member = c.member_taken-member.result in
    let kept = c.args.kept.now in
    pushed-four kept c.push_call_label.new.kept c.push_names.new.kept c.push_called.new.kept c.push_start.new.kept (of_calls texts here.calls here.level statement here.first)
    (of_names_in texts definitions here item statement member) (of_called texts item) (start_in member) c.in_ok-push_call_label.ensures c.in_ok-push_names.ensures
    c.in_ok-push_called.ensures c.in_ok-push_start.ensures
    ∙ ap (λ (m : Option PathId). fold with_first kept (of_calls texts here.calls here.level statement here.first ++ of_taken texts definitions here item statement m))
    (c.member_taken-member.ensures ∙ ap (λ used. member_taken members used item statement) c.used_by.ensures)
