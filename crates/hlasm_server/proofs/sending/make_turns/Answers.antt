use Rattle.std.proofs.Common.{◌∙◌, refl, subst}
use Rattle.std.proofs.lemmas.Result.{err_from_is_err_and}
use Rattle.bulk_session.specs.Turn.{turn}
use Rattle.hlasm_server.specs.Waiting.{Asks}
use Rattle.hlasm_server.proofs.SendingLaws.{came, fewer_queued, turning_begins, turning_goes_on, turning_holds, turning_stops, turning_breaks}
use Rattle.hlasm_server.proofs.sending.make_turns.Goals as goal

pub queue-init : goal.queue-init
queue-init g c = record {
  turning = turning_begins c.args.session.now c.args.since.now _ _ _ c.requires.ready;
  left = refl;
  faults = refl;
}

pub returns-then-is_held-clause-makes : goal.returns-then-is_held-clause-makes
returns-then-is_held-clause-makes g c =
    let asks = subst (λ b. Asks c.queue.since b (g.S.Source.waits c.queue.source) (g.S.Source.waits c.is_held.new.source)) c.if-is_held.true c.is_held.ensures.asks in
    turning_holds _ _ _ _ _ _ _ _ _ _ _ c.queue.invariant.turning c.queue-test.ensures asks

pub returns-in_err-turn-clause-makes : goal.returns-in_err-turn-clause-makes
returns-in_err-turn-clause-makes g c =
    let asks = subst (λ b. Asks c.queue.since b (g.S.Source.waits c.queue.source) (g.S.Source.waits c.is_held.new.source)) c.if-is_held.false c.is_held.ensures.asks in
    let p = err_from_is_err_and c.from_residual.result c.from_residual.ensures.1 in
    rw (p.1, p.2) (turning_stops _ _ _ _ _ _ _ _ _ _ _ c.queue.invariant.turning asks)

pub returns-in_err-put_output-clause-makes : goal.returns-in_err-put_output-clause-makes
returns-in_err-put_output-clause-makes g c =
    let asks = subst (λ b. Asks c.queue.since b (g.S.Source.waits c.queue.source) (g.S.Source.waits c.is_held.new.source)) c.if-is_held.false c.is_held.ensures.asks in
    let p = err_from_is_err_and c.from_residual-in_err-put_output.result c.from_residual-in_err-put_output.ensures.1 in
    rw (p.1, p.2) (turning_breaks _ _ _ _ _ _ _ _ _ _ _ _ _ c.queue.invariant.turning c.queue-test.ensures asks
    (came (turn c.queue.session.state).state (turn c.queue.session.state).bodies c.queue.session c.turn.new.self c.queue.invariant.turning.ready c.in_ok-turn.ensures.comes) c.in_err-put_output.ensures.err)

pub queue-smaller : goal.queue-smaller
queue-smaller g c =
    fewer_queued c.queue.session c.turn.new.self c.put_output.new.session c.queue-test.ensures (came (turn c.queue.session.state).state (turn c.queue.session.state).bodies c.queue.session c.turn.new.self c.queue.invariant.turning.ready c.in_ok-turn.ensures.comes) c.put_output.ensures.rest

pub queue-preserved : goal.queue-preserved
queue-preserved g c =
    let asks = subst (λ b. Asks c.queue.since b (g.S.Source.waits c.queue.source) (g.S.Source.waits c.is_held.new.source)) c.if-is_held.false c.is_held.ensures.asks in
    record {
      turning = turning_goes_on _ _ _ _ _ _ _ _ _ _ _ _ _ _ _ c.queue.invariant.turning c.queue-test.ensures asks
          (came (turn c.queue.session.state).state (turn c.queue.session.state).bodies c.queue.session c.turn.new.self c.queue.invariant.turning.ready c.in_ok-turn.ensures.comes)
          c.put_output.ensures.rest c.in_ok-put_output.ensures.ok c.put_output.ensures.later;
      left = c.is_held.ensures.left ∙ c.queue.invariant.left;
      faults = c.is_held.ensures.faults ∙ c.queue.invariant.faults;
    }
