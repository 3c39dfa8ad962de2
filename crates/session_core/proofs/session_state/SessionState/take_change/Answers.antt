use Rattle.std.proofs.Common.{refl, sym, ◌∙◌}
use Rattle.file_uri.specs.Paths.{path_of}
use Rattle.library_reading.proofs.AskedLaws.{is_failure, asks_stopped}
use Rattle.session_core.specs.Inside.{watched_so_far}
use Rattle.session_core.proofs.ShortLaws.{short_change}
use Rattle.session_core.proofs.WatchingLaws.{asks_as, asks_alone, change_named, change_unnamed}
use Rattle.session_core.proofs.session_state.SessionState.take_change.Goals as goal

pub returns-in_err-named : goal.returns-in_err-named
returns-in_err-named g c = asks_stopped _ _ _ _ _ (is_failure _ _ c.from_residual.ensures.1) (short_change c.args.self.now.root (path_of c.args.change.now.uri) c.args.change.now.kind (watched_so_far c.args.self.now c.args.watch.now))

pub returns-in-Some : goal.returns-in-Some
returns-in-Some g c =
    let w = watched_so_far c.args.self.now c.args.watch.now in
    asks_as _ _ _ _ _ _ _ _ (change_named _ _ _ _ _ w (sym c.in_ok-named.ensures ∙ c.in-Some.is) c.as_str.ensures.characters) c.change_file.ensures

pub returns-in-None : goal.returns-in-None
returns-in-None g c =
    let w = watched_so_far c.args.self.now c.args.watch.now in
    asks_alone _ w (λ _. w) _ _ _ (change_unnamed _ _ _ w (sym c.in_ok-named.ensures ∙ c.in-None.is)) refl
