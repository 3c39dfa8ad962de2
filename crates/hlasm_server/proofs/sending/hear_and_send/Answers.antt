use Rattle.std.proofs.Common.{sym, ◌∙◌, subst}
use Rattle.std.proofs.lemmas.Result.{err_from_is_err_and}
use Rattle.hlasm_server.specs.Sending.{StopsFollowing, Follows}
use Rattle.hlasm_server.proofs.SendingLaws.{came_by, stopped_before, broken_before_turns, broken_in_turns, heard_whole, heard_end}
use Rattle.hlasm_server.proofs.sending.hear_and_send.Goals as goal

pub returns-in_err-message-clause-hears : goal.returns-in_err-message-clause-hears
returns-in_err-message-clause-hears g c =
    let p = err_from_is_err_and c.from_residual.result c.from_residual.ensures.1 in
    rw (p.1, p.2) (stopped_before _ _ _ _ c.args.body.now _ _ _ _ c.requires.ready c.in_err-message.ensures.comes)

pub returns-in_err-put_output-in-Running-clause-hears : goal.returns-in_err-put_output-in-Running-clause-hears
returns-in_err-put_output-in-Running-clause-hears g c =
    let over = c.in_ok-message.ensures.comes in
    let here = came_by c.args.session.now.state c.args.body.now over.calls c.args.session.now c.message.new.self c.requires.ready over.comes in
    let p = err_from_is_err_and c.from_residual-in_err-put_output-in-Running.result c.from_residual-in_err-put_output-in-Running.ensures.1 in
    rw (p.1, p.2) (broken_before_turns _ _ c.args.body.now over.calls c.message.new.self _ _ _ _ _ here over.made
    (sym c.in-Running.is ∙ c.in_ok-message.ensures.connection) c.in_err-put_output-in-Running.ensures.err)

pub returns-in_err-make_turns-in-Running-clause-hears : goal.returns-in_err-make_turns-in-Running-clause-hears
returns-in_err-make_turns-in-Running-clause-hears g c =
    let over = c.in_ok-message.ensures.comes in
    let here = came_by c.args.session.now.state c.args.body.now over.calls c.args.session.now c.message.new.self c.requires.ready over.comes in
    let p = err_from_is_err_and c.from_residual-in_err-make_turns-in-Running.result c.from_residual-in_err-make_turns-in-Running.ensures.1 in
    let made = subst (λ n. StopsFollowing (c.in_err-make_turns-in-Running.field-0).0 c.put_output.new.session.state n (g.S.Source.waits c.args.source.now) (g.S.Source.waits c.make_turns.new.source)
    (g.K.Sink.held c.put_output.new.sink) (g.K.Sink.held c.make_turns.new.sink)) c.one_more.ensures c.in_err-make_turns-in-Running.ensures.makes in
    rw (p.1, p.2) (broken_in_turns _ _ _ c.args.body.now over.calls c.message.new.self c.put_output.new.session _ _ _ _ _ _ _ here over.made
    (sym c.in-Running.is ∙ c.in_ok-message.ensures.connection) c.put_output.ensures.rest c.in_ok-put_output-in-Running.ensures.ok made)

pub returns-in_ok-make_turns-in-Running-clause-hears : goal.returns-in_ok-make_turns-in-Running-clause-hears
returns-in_ok-make_turns-in-Running-clause-hears g c =
    let over = c.in_ok-message.ensures.comes in
    let here = came_by c.args.session.now.state c.args.body.now over.calls c.args.session.now c.message.new.self c.requires.ready over.comes in
    let made = subst (λ n. Follows c.put_output.new.session.state n c.make_turns.new.session.state c.make_turns.new.since (g.S.Source.waits c.args.source.now) (g.S.Source.waits c.make_turns.new.source)
    (g.K.Sink.held c.put_output.new.sink) (g.K.Sink.held c.make_turns.new.sink)) c.one_more.ensures c.in_ok-make_turns-in-Running.ensures.makes in
    heard_whole _ c.make_turns.new.session.state _ _ c.args.body.now over.calls c.message.new.self c.put_output.new.session _ _ _ _ _ _ _ here over.made
    (sym c.in-Running.is ∙ c.in_ok-message.ensures.connection) c.put_output.ensures.rest c.in_ok-put_output-in-Running.ensures.ok made

pub returns-in-Exit-clause-hears : goal.returns-in-Exit-clause-hears
returns-in-Exit-clause-hears g c =
    let over = c.in_ok-message.ensures.comes in
    let here = came_by c.args.session.now.state c.args.body.now over.calls c.args.session.now c.message.new.self c.requires.ready over.comes in
    heard_end _ _ c.args.body.now c.in-Exit.closed over.calls c.message.new.self _ _ _ _ here over.made (sym c.in-Exit.is ∙ c.in_ok-message.ensures.connection)
