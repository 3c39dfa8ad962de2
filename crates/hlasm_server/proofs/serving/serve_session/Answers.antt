use Rattle.std.proofs.Common.{ℕ, ◌≤◌, List, Option, true, false, refl, sym, ◌∙◌, subst, arith}
use Rattle.io_edge.specs.Told.{Gives}
use Rattle.bulk_session.specs.SessionView.{SessionView}
use Rattle.hlasm_server.proofs.ServeLaws.{IsServing, serving_begins, nothing_asked, serving_goes_on, between_at_first, frame_falls, ends_with_input, ends_with_read_fault, ends_without_memory, ends_with_exit, ends_with_bad_start, ends_with_limit, ends_stopped, HasStatusCause-stopped, status_of-is_no_BadWords}
use Rattle.hlasm_server.proofs.serving.serve_session.Goals as goal

pub loop-body-init : goal.loop-body-init
loop-body-init g c =
    let at_first = between_at_first c.args.reader.now c.requires.reader in
    let budget = c.args.session.now.state.budget in
    let left = g.S.Source.left c.args.source.now in
    let waits = g.S.Source.waits c.args.source.now in
    let held = g.K.Sink.held c.args.sink.now in
    let calls = g.B.Library.calls c.args.library.now in
    let read = g.S.Source.faults c.args.source.now in
    let written = g.K.Sink.faults c.args.sink.now in
    record {
      serving = subst (λ (z : SessionView). IsServing budget left left held held waits waits calls calls read read written written z 0 c.args.reader.now) (sym c.requires.session)
          (serving_begins budget left held waits calls read written c.args.reader.now at_first.0 at_first.1);
      buffer = refl;
      library = omega arith;
    }

pub next_body-requires-clause-buffer : goal.next_body-requires-clause-buffer
next_body-requires-clause-buffer g c = c.loop-body.invariant.buffer

pub next_body-requires-clause-room : goal.next_body-requires-clause-room
next_body-requires-clause-room g c = c.loop-body.invariant.serving.within

pub next_body-requires-clause-between : goal.next_body-requires-clause-between
next_body-requires-clause-between g c = c.loop-body.invariant.serving.between

pub returns-in-End-clause-plain : goal.returns-in-End-clause-plain
returns-in-End-clause-plain g c =
    let found = c.in-End.ensures.found in
    ends_with_input _ _ _ _ _ _ _ _ _ _ _ _ _ _ _ _ _ found.0 (nothing_asked _ _ _ _ _ _ _ _ _ _ _ _ _ _ _ _ _ c.next_body.ensures.waits c.loop-body.invariant.serving) found.1 found.2.0 found.2.1 found.2.2

pub returns-in-Broken-clause-plain : goal.returns-in-Broken-clause-plain
returns-in-Broken-clause-plain g c =
    let found = c.in-Broken.ensures.found in
    ends_with_bad_start _ _ _ _ _ _ _ _ _ _ _ _ _ _ _ _ _ found.0 _ (nothing_asked _ _ _ _ _ _ _ _ _ _ _ _ _ _ _ _ _ c.next_body.ensures.waits c.loop-body.invariant.serving) found.1 found.2.0 found.2.1 found.2.2

pub returns-in-TooLong-clause-plain : goal.returns-in-TooLong-clause-plain
returns-in-TooLong-clause-plain g c =
    let found = c.in-TooLong.ensures.found in
    ends_with_limit _ _ _ _ _ _ _ _ _ _ _ _ _ _ _ _ _ found.0 (nothing_asked _ _ _ _ _ _ _ _ _ _ _ _ _ _ _ _ _ c.next_body.ensures.waits c.loop-body.invariant.serving) found.1 found.2.0 found.2.1

pub returns-in-ReadFault-clause-plain : goal.returns-in-ReadFault-clause-plain
returns-in-ReadFault-clause-plain g c =
    let found = c.in-ReadFault.ensures.found in
    ends_with_read_fault _ _ _ _ _ _ _ _ _ _ _ _ _ _ _ _ _ found.0 (nothing_asked _ _ _ _ _ _ _ _ _ _ _ _ _ _ _ _ _ c.next_body.ensures.waits c.loop-body.invariant.serving) found.1 found.2.0 found.2.2

pub returns-in-OutOfMemory-clause-plain : goal.returns-in-OutOfMemory-clause-plain
returns-in-OutOfMemory-clause-plain g c =
    let found = c.in-OutOfMemory.ensures.found in
    ends_without_memory _ _ _ _ _ _ _ _ _ _ _ _ _ _ _ _ _ found.0 (nothing_asked _ _ _ _ _ _ _ _ _ _ _ _ _ _ _ _ _ c.next_body.ensures.waits c.loop-body.invariant.serving) found.1

pub hear_body-requires : goal.hear_body-requires
hear_body-requires g c = record { ready = c.loop-body.invariant.serving.ready }

pub returns-in-Ok-Exit-true-clause-plain : goal.returns-in-Ok-Exit-true-clause-plain
returns-in-Ok-Exit-true-clause-plain g c =
    let found = c.in-Body.ensures.found in
    let frame = found.2.0 in
    let gives = subst (λ (z : Option (List ℕ)). Gives (g.S.Source.left c.loop-body.source) found.0 z) (sym c.hear_body.ensures.left) found.1 in
    let heard = rw c.in-Ok-Exit-true.field-0-is at c.in-Ok-Exit-true.ensures.hears in
    let closes = rw c.in-Ok-Exit-true.field-0-0-test at heard in
    ends_with_exit true _ _ _ _ _ _ _ _ _ _ _ _ _ _ _ _ _ _ _ _ found.0 _ (nothing_asked _ _ _ _ _ _ _ _ _ _ _ _ _ _ _ _ _ c.next_body.ensures.waits c.loop-body.invariant.serving) gives frame (omega (arith, found.2.2, found.2.3)) closes

pub returns-in-Ok-Exit-false-clause-plain : goal.returns-in-Ok-Exit-false-clause-plain
returns-in-Ok-Exit-false-clause-plain g c =
    let found = c.in-Body.ensures.found in
    let frame = found.2.0 in
    let gives = subst (λ (z : Option (List ℕ)). Gives (g.S.Source.left c.loop-body.source) found.0 z) (sym c.hear_body.ensures.left) found.1 in
    let heard = rw c.in-Ok-Exit-false.field-0-is at c.in-Ok-Exit-false.ensures.hears in
    let closes = rw c.in-Ok-Exit-false.field-0-0-test at heard in
    ends_with_exit false _ _ _ _ _ _ _ _ _ _ _ _ _ _ _ _ _ _ _ _ found.0 _ (nothing_asked _ _ _ _ _ _ _ _ _ _ _ _ _ _ _ _ _ c.next_body.ensures.waits c.loop-body.invariant.serving) gives frame (omega (arith, found.2.2, found.2.3)) closes

pub returns-in-Err-clause-plain : goal.returns-in-Err-clause-plain
returns-in-Err-clause-plain g c =
    let found = c.in-Body.ensures.found in
    let frame = found.2.0 in
    let gives = subst (λ (z : Option (List ℕ)). Gives (g.S.Source.left c.loop-body.source) found.0 z) (sym c.hear_body.ensures.left) found.1 in
    rw c.stopped.ensures (ends_stopped c.in-Err.stop _ _ _ _ _ _ _ _ _ _ _ _ _ _ _ _ _ _ _ _ found.0 _ (nothing_asked _ _ _ _ _ _ _ _ _ _ _ _ _ _ _ _ _ c.next_body.ensures.waits c.loop-body.invariant.serving) gives frame (omega (arith, found.2.2, found.2.3)) c.in-Err.ensures.hears)

pub returns-in-Err-clause-cause : goal.returns-in-Err-clause-cause
returns-in-Err-clause-cause g c =
    rw c.stopped.ensures (HasStatusCause-stopped c.in-Err.stop _ _ _ _ _ c.loop-body.invariant.serving.sink_later c.hear_body.ensures.later c.in-Err.ensures.cause)

pub returns-in-Err-clause-words : goal.returns-in-Err-clause-words
returns-in-Err-clause-words g c = rw c.stopped.ensures (status_of-is_no_BadWords c.in-Err.stop)

pub loop-body-smaller : goal.loop-body-smaller
loop-body-smaller g c =
    let found = c.in-Body.ensures.found in
    frame_falls _ _ found.0 _ found.2.0 found.2.2 found.2.3

pub loop-body-preserved : goal.loop-body-preserved
loop-body-preserved g c =
    let found = c.in-Body.ensures.found in
    let frame = found.2.0 in
    let gives = subst (λ (z : Option (List ℕ)). Gives (g.S.Source.left c.loop-body.source) found.0 z) (sym c.hear_body.ensures.left) found.1 in
    let heard = rw c.in-Ok-Running.field-0-is at c.in-Ok-Running.ensures.hears in
    let later = subst (λ (z : ℕ). g.S.Source.faults c.loop-body.source ≤ z) (sym c.hear_body.ensures.faults) c.next_body.ensures.later in
    record {
      serving = serving_goes_on _ _ _ _ _ _ _ _ _ _ _ _ _ _ _ _ _ _ _ _ _ _ _ _ _ found.0 _
          (nothing_asked _ _ _ _ _ _ _ _ _ _ _ _ _ _ _ _ _ c.next_body.ensures.waits c.loop-body.invariant.serving) frame gives found.2.1 found.2.2 found.2.3
          (c.in-Ok-Running.ensures.ready c.in-Ok-Running.field-0-is) heard later c.hear_body.ensures.later;
      buffer = c.next_body.auto.buffer ∙ c.loop-body.invariant.buffer;
      library = omega (arith, c.loop-body.invariant.library, c.hear_body.ensures.later_library);
    }
