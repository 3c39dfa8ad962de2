use Rattle.debug_sessions.specs.State.{session_for}
use Rattle.debug_sessions.specs.Answers.{effect}
use Rattle.debug_sessions.proofs.SessionLemmas.{is_done}
use Rattle.debug_sessions.proofs.sessions.obey.Goals as goal

pub returns-clause-done : goal.returns-clause-done
returns-clause-done c =
    let old = c.args.sessions.now.items in
    let own = session_for c.args.number old in
    is_done old c.place_for.new.sessions.items c.answer_at.new.sessions.items c.settle.new.sessions.items c.args.number
    c.in_ok-at.at c.in_ok-replies.replies c.args.request
    (effect c.args.store.now.store.paths c.args.launched own c.args.request.command)
    (record { found = c.in_ok-at.ensures.place; put = c.in_ok-at.ensures.put; taken = c.in_ok-at.ensures.taken })
    (c.in_ok-replies.ensures.answers own c.in_ok-at.ensures.place)
    c.settle.ensures

pub returns-clause-whole : goal.returns-clause-whole
returns-clause-whole c =
    (c.in_ok-replies.ensures.answers (session_for c.args.number c.args.sessions.now.items) c.in_ok-at.ensures.place).replied.whole
