use Rattle.std.proofs.Common.{◌∙◌, ap}
use Rattle.json_view.specs.Texts.{reading}
use Rattle.bulk_session.proofs.ProgramLaws.{on_ok, has_begun}
use Rattle.bulk_session.proofs.running.begin.Goals as goal

pub returns : goal.returns
returns g c =
    on_ok c.tell.result _ _ (has_begun c.args.session.now.state c.tell.new.session.state c.deref.result.now c.requires.fresh
    (ap reading c.deref.ensures.value ∙ c.in_ok-body.ensures)) c.tell.ensures
