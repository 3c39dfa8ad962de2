use Rattle.std.proofs.Common.{map, string_bytes, ap}
use Rattle.std.proofs.Math.ListN.{drop_of_length-le}
use Rattle.library_reading.proofs.AskedLaws.{is_failure, goes_first}
use Rattle.library_reading.proofs.MemberLaws.{room_goes_on, room_gone, room_stays, room_cut, names-next}
use Rattle.library_reading.proofs.FolderLaws.{members_are_short}
use Rattle.library_reading.proofs.folders.read_members.Goals as goal

pub loop-name-init : goal.loop-name-init
loop-name-init g c = goes_first _ _ _

pub returns-in_err-room : goal.returns-in_err-room
returns-in_err-room g c =
    room_cut _ _ _ _ _ _ _ _ _ _ _ _ _ _ _ _ (members_are_short _) c.loop-name.invariant
    (names-next _ _ _ _ c.loop-name-test.true c.name-item.is c.as_str.ensures.value) c.in_err-room.ensures (is_failure _ _ c.from_residual.ensures.1)

pub loop-name-preserved : goal.loop-name-preserved
loop-name-preserved g c =
    room_goes_on _ _ _ _ _ _ _ _ _ _ _ _ _ _ c.loop-name.invariant
    (names-next _ _ _ _ c.loop-name-test.true c.name-item.is c.as_str.ensures.value) c.if-not-room.false c.in_ok-room.ensures

pub returns-then-not-room : goal.returns-then-not-room
returns-then-not-room g c =
    room_gone _ _ _ _ _ _ _ _ _ _ _ _ _ _ c.loop-name.invariant
    (names-next _ _ _ _ c.loop-name-test.true c.name-item.is c.as_str.ensures.value) c.if-not-room.true c.in_ok-room.ensures

pub returns : goal.returns
returns g c = room_stays _ _ _ _ _ _ _ _ c.loop-name.invariant (ap (map string_bytes) (drop_of_length-le _ c.loop-name-test.false))
