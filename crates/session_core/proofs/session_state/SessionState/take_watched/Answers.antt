use Rattle.library_reading.proofs.AskedLaws.{is_failure}
use Rattle.session_core.proofs.WatchingLaws.{asks_as, unconcerned_as, watched_as, watched_reached, watched_cut}
use Rattle.session_core.proofs.session_state.SessionState.take_watched.Goals as goal

pub returns-in_err-take_changes : goal.returns-in_err-take_changes
returns-in_err-take_changes g c =
    asks_as _ _ _ _ _ _ _ _ (watched_as _ _ _ (unconcerned_as c.args.self.now c.new-watch.result c.new-watch.ensures.bodies c.new-watch.ensures.logs c.new-watch.ensures.concerned))
    (watched_cut _ _ _ _ _ _ _ _ _ c.in_err-take_changes.ensures (is_failure _ _ c.from_residual.ensures.1))

pub returns : goal.returns
returns g c =
    asks_as _ _ _ _ _ _ _ _ (watched_as _ _ _ (unconcerned_as c.args.self.now c.new-watch.result c.new-watch.ensures.bodies c.new-watch.ensures.logs c.new-watch.ensures.concerned))
    (watched_reached _ _ _ _ _ _ _ _ _ c.in_ok-take_changes.ensures c.after_watching.ensures)
