use Rattle.bulk_session.proofs.ProgramLaws.{is_heard}
use Rattle.bulk_session.proofs.running.tell.Goals as goal

pub returns-in-Ok : goal.returns-in-Ok
returns-in-Ok g c =
    is_heard c.in-Ok.field-0 c.args.session.now c.message.new.self c.args.body.now c.args.library.now.held.calls c.message.new.library.held.calls
    c.message.new.library.all_answered c.in-Ok.ensures.comes
