use Rattle.std.proofs.Common.{ap, chars}
use Rattle.session_core.specs.Inside.{watched_so_far}
use Rattle.session_core.specs.Message.{member_changed}
use Rattle.session_core.proofs.WatchingLaws.{asks_as, asks_alone}
use Rattle.session_core.proofs.session_state.SessionState.change_member.Goals as goal

pub returns-in-Created : goal.returns-in-Created
returns-in-Created g c =
    let w = watched_so_far c.args.self.now c.args.watch.now in
    asks_as _ _ _ _ _ _ _ _ (ap (λ z. member_changed (chars c.args.path.now) z w) c.in-Created.is) c.read_again.ensures

pub returns-in-Changed : goal.returns-in-Changed
returns-in-Changed g c =
    let w = watched_so_far c.args.self.now c.args.watch.now in
    asks_as _ _ _ _ _ _ _ _ (ap (λ z. member_changed (chars c.args.path.now) z w) c.in-Changed.is) c.read_again-in-Changed.ensures

pub returns-in-Deleted : goal.returns-in-Deleted
returns-in-Deleted g c =
    let w = watched_so_far c.args.self.now c.args.watch.now in
    asks_alone _ _ (λ _. watched_so_far c.drop_deleted.new.self c.drop_deleted.new.watch) _ _ _ (ap (λ z. member_changed (chars c.args.path.now) z w) c.in-Deleted.is) c.drop_deleted.ensures
