use Rattle.bulk_session.proofs.running.make_turn.Goals as goal

pub returns-in-Ok : goal.returns-in-Ok
returns-in-Ok g c = c.in-Ok.ensures.comes.state_is
