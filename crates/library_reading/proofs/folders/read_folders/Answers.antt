use Rattle.std.proofs.Math.ListN.{drop_of_length-le}
use Rattle.library_reading.proofs.AskedLaws.{is_failure, goes_first}
use Rattle.library_reading.proofs.MemberLaws.{room_goes_on, room_gone, room_stays, room_cut, drop-next}
use Rattle.library_reading.proofs.FolderLaws.{folder_read-short}
use Rattle.library_reading.proofs.folders.read_folders.Goals as goal

pub loop-folder-init : goal.loop-folder-init
loop-folder-init g c = goes_first _ _ _

pub returns-in_err-room : goal.returns-in_err-room
returns-in_err-room g c =
    room_cut _ _ _ _ _ _ _ _ _ _ _ _ _ _ _ _ folder_read-short c.loop-folder.invariant
    (drop-next _ _ _ c.loop-folder-test.true c.folder-item.is) c.in_err-room.ensures (is_failure _ _ c.from_residual.ensures.1)

pub loop-folder-preserved : goal.loop-folder-preserved
loop-folder-preserved g c =
    room_goes_on _ _ _ _ _ _ _ _ _ _ _ _ _ _ c.loop-folder.invariant
    (drop-next _ _ _ c.loop-folder-test.true c.folder-item.is) c.if-not-room.false c.in_ok-room.ensures

pub returns-then-not-room : goal.returns-then-not-room
returns-then-not-room g c =
    room_gone _ _ _ _ _ _ _ _ _ _ _ _ _ _ c.loop-folder.invariant
    (drop-next _ _ _ c.loop-folder-test.true c.folder-item.is) c.if-not-room.true c.in_ok-room.ensures

pub returns : goal.returns
returns g c = room_stays _ _ _ _ _ _ _ _ c.loop-folder.invariant (drop_of_length-le _ c.loop-folder-test.false)
