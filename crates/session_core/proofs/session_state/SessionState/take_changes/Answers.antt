use Rattle.std.proofs.Common.{refl}
use Rattle.std.proofs.Math.ListN.{drop_of_length-le}
use Rattle.library_reading.proofs.AskedLaws.{is_failure, goes_first}
use Rattle.session_core.proofs.WatchingLaws.{changes_go_on, changes_cut, changes_end}
use Rattle.session_core.proofs.session_state.SessionState.take_changes.Goals as goal

pub loop-change-init : goal.loop-change-init
loop-change-init g c = goes_first _ _ _

pub returns-in_err-take_change : goal.returns-in_err-take_change
returns-in_err-take_change g c =
    changes_cut _ _ _ _ _ _ _ _ _ _ _ _ _ _ _ c.loop-change.invariant c.loop-change-test.true c.change-item.is c.in_err-take_change.ensures (is_failure _ _ c.from_residual.ensures.1)

pub loop-change-preserved : goal.loop-change-preserved
loop-change-preserved g c =
    changes_go_on _ _ _ _ _ _ _ _ _ _ _ _ _ c.loop-change.invariant c.loop-change-test.true c.change-item.is c.in_ok-take_change.ensures

pub returns : goal.returns
returns g c = changes_end _ _ _ _ _ _ _ _ _ c.loop-change.invariant (drop_of_length-le _ c.loop-change-test.false) refl
