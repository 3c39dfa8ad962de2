use Rattle.std.proofs.Common.{◌≡◌, ◌≤◌, ◌-◌, length}
use Rattle.hlasm_server.specs.declared.feeding.TheConstants.{LARGEST_PIECE}
use Rattle.hlasm_server.specs.Output.{most_input}
use Rattle.hlasm_server.proofs.ServeLaws.{IsServing}
use Rattle.hlasm_server.proofs.serving.serve_session.Given as goal

-- the session stands open between two frames, and what was heard so far is answered
abbrev pub invariant-loop-body : goal.invariant-loop-body
invariant-loop-body g l =
    let s = g.S.Source in
    let k = g.K.Sink in
    let b = g.B.Library in
    record {
      serving : IsServing l.initial.session.state.budget (s.left l.initial.source) (s.left l.source) (k.held l.initial.sink) (k.held l.sink) (s.waits l.initial.source) (s.waits l.source)
          (b.calls l.initial.library) (b.calls l.library) (s.faults l.initial.source) (s.faults l.source) (k.faults l.initial.sink) (k.faults l.sink) l.session l.since l.reader;
      buffer : length l.buffer ≡ LARGEST_PIECE;
      library : b.faults l.initial.library ≤ b.faults l.library;
    }

abbrev pub decreases-loop-body : goal.decreases-loop-body
decreases-loop-body g l = most_input - l.reader.fed
