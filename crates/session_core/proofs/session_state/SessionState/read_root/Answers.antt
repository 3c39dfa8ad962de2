use Rattle.library_reading.proofs.AskedLaws.{is_failure}
use Rattle.session_core.specs.Inside.{watched_so_far}
use Rattle.session_core.proofs.WatchingLaws.{few_configured, configured_reached, configured_lost, configured_cut, read_as}
use Rattle.session_core.proofs.session_state.SessionState.read_root.Goals as goal

pub returns-in_err-configuration : goal.returns-in_err-configuration
returns-in_err-configuration g c =
    configured_cut _ (watched_so_far c.args.self.now c.args.watch.now) _ _ _ _ _ _ _ _ _ c.take_store-store.ensures.taken c.in_err-configuration.ensures (is_failure _ _ c.from_residual.ensures.1)

pub put_configuration-requires : goal.put_configuration-requires
put_configuration-requires g c = record { few = few_configured _ _ _ _ _ _ _ _ c.in_ok-configuration.ensures c.take_store-store.ensures.few }

pub returns-in_err-farewells : goal.returns-in_err-farewells
returns-in_err-farewells g c =
    configured_lost _ (watched_so_far c.args.self.now c.args.watch.now) _ _ _ _ _ _ _ _ _ c.take_store-store.ensures.taken c.in_ok-configuration.ensures
    (is_failure _ _ c.from_residual-in_err-farewells.ensures.1)

pub returns : goal.returns
returns g c =
    configured_reached _ (watched_so_far c.args.self.now c.args.watch.now) _ _ _ _ _ _ _ _ _ c.take_store-store.ensures.taken c.in_ok-configuration.ensures
    (read_as (watched_so_far c.args.self.now c.args.watch.now) _ _ _ _ _ _ _ _ c.take_store-store.ensures.left c.in_ok-farewells.ensures c.take.ensures.bodies c.take.ensures.logs c.take.ensures.concerned)
