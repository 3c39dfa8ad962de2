use Rattle.std.proofs.Common.{sym, ap, ◌∙◌}
use Rattle.std.specs.Prelude.{is_some, not}
use Rattle.library_reading.proofs.AskedLaws.{is_failure, asks_stopped}
use Rattle.session_core.specs.State.{State}
use Rattle.session_core.proofs.ShortLaws.{short_begun}
use Rattle.session_core.proofs.WatchingLaws.{asks_as, asks_alone, quiet_as, begun_as, begun_rootless, unconcerned_as, watched_reached, watched_cut}
use Rattle.session_core.proofs.session_state.SessionState.begin_work.Goals as goal

pub returns-in_err-queue_all : goal.returns-in_err-queue_all
returns-in_err-queue_all g c = asks_stopped _ _ _ _ _ (is_failure _ _ c.from_residual.ensures.1) (short_begun _ _)

pub returns-then-is_none : goal.returns-then-is_none
returns-then-is_none g c =
    asks_alone _ _ _ _ _ _ (begun_rootless _ c.args.self.now (ap (λ (z : State). is_some z.root) (sym c.self.view_is) ∙ c.is_none.ensures ∙ ap not c.if-is_none.true))
    (quiet_as _ _ _ c.in_ok-queue_all.ensures c.none.ensures)

pub returns-in_err-configure : goal.returns-in_err-configure
returns-in_err-configure g c =
    asks_as _ _ _ _ _ _ _ _
    (begun_as _ _ _ (ap (λ (z : State). is_some z.root) (sym c.self.view_is) ∙ c.is_none.ensures ∙ ap not c.if-is_none.false)
    (unconcerned_as c.args.self.now c.new-watch.result c.new-watch.ensures.bodies c.new-watch.ensures.logs c.new-watch.ensures.concerned))
    (watched_cut _ _ _ _ _ _ _ _ _ c.in_err-configure.ensures (is_failure _ _ c.from_residual-in_err-configure.ensures.1))

pub returns : goal.returns
returns g c =
    asks_as _ _ _ _ _ _ _ _
    (begun_as _ _ _ (ap (λ (z : State). is_some z.root) (sym c.self.view_is) ∙ c.is_none.ensures ∙ ap not c.if-is_none.false)
    (unconcerned_as c.args.self.now c.new-watch.result c.new-watch.ensures.bodies c.new-watch.ensures.logs c.new-watch.ensures.concerned))
    (watched_reached _ _ _ _ _ _ _ _ _ c.in_ok-configure.ensures c.after_watching.ensures)
