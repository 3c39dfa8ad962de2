use Rattle.std.proofs.Common.{◌++◌, map, sym, ap, ◌∙◌}
use Rattle.std.specs.Prelude.{vec_items}
use Rattle.std.specs.Option.{option_map}
use Rattle.session_core.specs.Inside.{watched_so_far}
use Rattle.session_core.specs.Replies.{logged_line}
use Rattle.session_core.specs.State.{State}
use Rattle.session_core.specs.Step.{quiet}
use Rattle.session_core.proofs.ListLaws.{on_ok}
use Rattle.session_core.proofs.WatchingLaws.{whole_put, taken_as}
use Rattle.session_core.proofs.session_state.SessionState.put_members.Goals as goal

pub invariant_of-self : goal.invariant_of-self
invariant_of-self c =
    whole_put _ _ _ _ _ _ _ c.forget_members.ensures.listed c.forget_members.ensures.index (ap (option_map vec_items) c.forget_members.ensures.names) c.requires.few c.documents_have_numbers.ensures c.self.invariant.folders_are

pub returns : goal.returns
returns c =
    let w = watched_so_far c.args.self.now c.args.watch.now in
    taken_as w _ _ _ _ _ _ (ap (λ (z : State). quiet (record z { store = c.args.store.store })) (sym c.self.view_is))
    (on_ok c.take.result (λ is. is ∙ ap (λ z. w.bodies ++ (map logged_line w.log.lines ++ z)) c.none.ensures) c.take.ensures.bodies) c.take.ensures.logs c.take.ensures.concerned
