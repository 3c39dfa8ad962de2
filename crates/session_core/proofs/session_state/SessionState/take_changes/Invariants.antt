-- what is left to be told is all that goes on
use Rattle.std.proofs.Common.{drop}
use Rattle.library_reading.proofs.AskedLaws.{GoesOn}
use Rattle.session_core.specs.Inside.{watched_so_far}
use Rattle.session_core.specs.Message.{changes_told}
use Rattle.session_core.proofs.session_state.SessionState.take_changes.Given as goal

abbrev pub invariant-loop-change : goal.invariant-loop-change
invariant-loop-change g l =
    let b = g.B.Library in
    GoesOn
    (changes_told l.changes (watched_so_far l.initial.self l.initial.watch))
    (changes_told (drop l.change-index l.changes) (watched_so_far l.self l.watch))
    (b.calls l.initial.library) (b.calls l.library) (b.faults l.initial.library) (b.faults l.library)
