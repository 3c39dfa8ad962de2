use Rattle.std.proofs.Common.{refl}
use Rattle.library_reading.proofs.AskedLaws.{is_failure}
use Rattle.session_core.specs.Inside.{watched_so_far}
use Rattle.session_core.proofs.WatchingLaws.{few_read, member_reached, member_cut, member_from}
use Rattle.session_core.proofs.session_state.SessionState.read_again.Goals as goal

pub returns-in_err-read_member : goal.returns-in_err-read_member
returns-in_err-read_member g c =
    member_cut _ (watched_so_far c.args.self.now c.args.watch.now) _ _ _ _ _ _ _ _ _ c.take_store-store.ensures.taken c.in_err-read_member.ensures (is_failure _ _ c.from_residual.ensures.1)

pub put_members-requires : goal.put_members-requires
put_members-requires g c = record { few = few_read _ _ _ _ _ _ _ _ c.in_ok-read_member.ensures c.take_store-store.ensures.few }

pub returns : goal.returns
returns g c =
    member_reached _ (watched_so_far c.args.self.now c.args.watch.now) _ _ _ _ _ _ _ _ _ c.take_store-store.ensures.taken c.in_ok-read_member.ensures
    (member_from (watched_so_far c.args.self.now c.args.watch.now) _ _ _ _ (record c.args.watch.now { logs = c.read_member.new.logs }) _ _ c.take_store-store.ensures.left refl c.put_members.ensures)
