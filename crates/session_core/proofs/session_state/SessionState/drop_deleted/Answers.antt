use Rattle.std.proofs.Common.{◌≡◌, IfOk, refl, ap, ◌∙◌, subst, chars}
use Rattle.document_store.specs.Store.{Store}
use Rattle.library_reading.specs.Taking.{path_dropped}
use Rattle.session_core.specs.Inside.{watched_so_far}
use Rattle.session_core.specs.Message.{after_member}
use Rattle.session_core.proofs.WatchingLaws.{few_dropped, member_from}
use Rattle.session_core.proofs.session_state.SessionState.drop_deleted.Goals as goal

pub put_members-requires : goal.put_members-requires
put_members-requires c = record { few = few_dropped c.take_store-store.result.store c.drop_path.new.store.store (chars c.args.path.now) c.drop_path.ensures c.take_store-store.ensures.few }

pub returns : goal.returns
returns c =
    let w = watched_so_far c.args.self.now c.args.watch.now in
    let store : c.drop_path.new.store.store ≡ path_dropped c.args.self.now.store (chars c.args.path.now) =
    c.drop_path.ensures ∙ ap (λ (s : Store). path_dropped s (chars c.args.path.now)) c.take_store-store.ensures.taken in
    subst (λ (s : Store). IfOk c.put_members.result (λ _. after_member w (record { store = s; log = w.log }) ≡ watched_so_far c.put_members.new.self c.put_members.new.watch)) store
    (member_from w _ _ _ _ c.args.watch.now _ _ c.take_store-store.ensures.left refl c.put_members.ensures)
