use Rattle.std.proofs.Common.{◌∙◌, ap}
use Rattle.json_view.specs.Texts.{reading}
use Rattle.bulk_session.proofs.ProgramLaws.{on_ok, is_opened}
use Rattle.bulk_session.proofs.running.open.Goals as goal

pub returns : goal.returns
returns g c =
    on_ok c.tell.result _ _ (is_opened c.args.session.now.state c.tell.new.session.state c.deref.result.now c.as_str.result.now c.args.count c.requires.few c.requires.ready
    (c.as_str.ensures.value ∙ c.in_ok-text.ensures) (ap reading c.deref.ensures.value ∙ c.in_ok-body.ensures)) c.tell.ensures
