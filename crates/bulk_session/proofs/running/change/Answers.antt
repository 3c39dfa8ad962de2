use Rattle.std.proofs.Common.{◌∙◌, ap}
use Rattle.json_view.specs.Texts.{reading}
use Rattle.bulk_session.proofs.ProgramLaws.{on_ok, is_changed}
use Rattle.bulk_session.proofs.running.change.Goals as goal

pub returns : goal.returns
returns g c =
    on_ok c.tell.result _ _ (is_changed c.args.session.now.state c.tell.new.session.state c.deref.result.now c.args.count c.args.edit c.in_ok-place.place
    c.requires.some c.requires.few c.requires.within c.requires.listed c.in_ok-place.ensures (ap reading c.deref.ensures.value ∙ c.in_ok-body.ensures)) c.tell.ensures
