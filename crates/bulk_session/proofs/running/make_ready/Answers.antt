use Rattle.std.proofs.Common.{◌∙◌, ap}
use Rattle.json_view.specs.Texts.{reading}
use Rattle.bulk_session.proofs.ProgramLaws.{on_ok, is_ready}
use Rattle.bulk_session.proofs.running.make_ready.Goals as goal

pub returns : goal.returns
returns g c =
    on_ok c.tell.result _ _ (is_ready c.args.session.now.state c.tell.new.session.state c.deref.result.now c.requires.begun
    (ap reading c.deref.ensures.value ∙ c.in_ok-body.ensures)) c.tell.ensures
