use Rattle.std.proofs.Common.{◌≡◌, length}
use Rattle.hlasm_server.proofs.SendingLaws.{IsTurning}
use Rattle.hlasm_server.proofs.sending.make_turns.Given as goal

-- what the Turns that were made publish was sent
abbrev pub invariant-queue : goal.invariant-queue
invariant-queue g l =
    let s = g.S.Source in
    let k = g.K.Sink in
    record {
      turning : IsTurning l.initial.session l.session l.initial.since l.since (s.waits l.initial.source) (s.waits l.source)
          (k.held l.initial.sink) (k.held l.sink) (k.faults l.initial.sink) (k.faults l.sink);
      left : s.left l.source ≡ s.left l.initial.source;
      faults : s.faults l.source ≡ s.faults l.initial.source;
    }

abbrev pub decreases-queue : goal.decreases-queue
decreases-queue g l = length l.session.state.queue
