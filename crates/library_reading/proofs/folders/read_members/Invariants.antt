-- what is left to be read is all that goes on
use Rattle.std.proofs.Common.{map, drop, string_bytes}
use Rattle.library_reading.specs.Reading.{members_read}
use Rattle.library_reading.proofs.AskedLaws.{GoesOn}
use Rattle.library_reading.proofs.folders.read_members.Given as goal

abbrev pub invariant-loop-name : goal.invariant-loop-name
invariant-loop-name g l =
    let b = g.B.Library in
    GoesOn
    (members_read l.folder.path (map string_bytes l.names) (record { store = l.initial.store.store; log = l.initial.logs }))
    (members_read l.folder.path (map string_bytes (drop l.name-index l.names)) (record { store = l.store.store; log = l.logs }))
    (b.calls l.initial.library) (b.calls l.library) (b.faults l.initial.library) (b.faults l.library)
