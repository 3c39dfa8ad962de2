-- what is left to be read is all that goes on
use Rattle.std.proofs.Common.{drop}
use Rattle.library_reading.specs.Reading.{folder_read}
use Rattle.library_reading.specs.Taking.{each_with_room}
use Rattle.library_reading.proofs.AskedLaws.{GoesOn}
use Rattle.library_reading.proofs.folders.read_folders.Given as goal

abbrev pub invariant-loop-folder : goal.invariant-loop-folder
invariant-loop-folder g l =
    let b = g.B.Library in
    GoesOn
    (each_with_room folder_read l.folders (record { store = l.initial.store.store; log = l.initial.logs }))
    (each_with_room folder_read (drop l.folder-index l.folders) (record { store = l.store.store; log = l.logs }))
    (b.calls l.initial.library) (b.calls l.library) (b.faults l.initial.library) (b.faults l.library)
