use Rattle.std.proofs.Common.{refl, sym, ◌∙◌}
use Rattle.session_core.proofs.WatchingLaws.{asks_as, asks_alone, quiet_as, watched_active, watched_passed}
use Rattle.session_core.proofs.session_state.SessionState.watched.Goals as goal

pub returns-then-not-is_active : goal.returns-then-not-is_active
returns-then-not-is_active g c =
    asks_alone _ _ _ _ _ _ (watched_passed _ _ (sym c.is_active.ensures ∙ c.if-not-is_active.true)) (quiet_as _ _ _ refl c.none.ensures)

pub returns : goal.returns
returns g c = asks_as _ _ _ _ _ _ _ _ (watched_active _ _ (sym c.is_active.ensures ∙ c.if-not-is_active.false)) c.take_watched.ensures
