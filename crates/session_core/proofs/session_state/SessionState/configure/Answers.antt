use Rattle.std.proofs.Common.{refl, sym, ap, ◌∙◌}
use Rattle.library_reading.proofs.AskedLaws.{is_failure, asks_stopped}
use Rattle.session_core.specs.Inside.{configured_where, watched_so_far}
use Rattle.session_core.specs.State.{State}
use Rattle.session_core.proofs.WatchingLaws.{asks_as, asks_alone, short_where, configured_at}
use Rattle.session_core.proofs.session_state.SessionState.configure.Goals as goal

pub returns-in_default : goal.returns-in_default
returns-in_default g c =
    let w = watched_so_far c.args.self.now c.args.watch.now in
    asks_alone _ w (λ _. w) _ _ _ (ap (λ (z : State). configured_where z.root w) (sym c.self.view_is) ∙ ap (λ z. configured_where z w) c.in_default.is) refl

pub returns-in_err-root : goal.returns-in_err-root
returns-in_err-root g c = asks_stopped _ _ _ _ _ (is_failure _ _ c.from_residual.ensures.1) (short_where _ _)

pub returns : goal.returns
returns g c =
    let w = watched_so_far c.args.self.now c.args.watch.now in
    asks_as _ _ _ _ _ _ _ _
    (configured_at _ _ _ w (ap (λ (z : State). z.root) (sym c.self.view_is) ∙ c.in-Some.is) (c.as_str.ensures.characters ∙ c.in_ok-root.ensures))
    c.read_root.ensures
