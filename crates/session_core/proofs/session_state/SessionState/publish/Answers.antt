use Rattle.std.proofs.Common.{◌≡◌, ◌∷◌, [], ◌++◌, ◌∙◌, ap, sym, subst, true, false}
use Rattle.session_core.specs.Diagnostics.{diagnostics_of}
use Rattle.session_core.specs.Inside.{IsSound}
use Rattle.session_core.specs.State.{State, around_of, document_at, is_queued, last_list, with_list}
use Rattle.session_core.specs.Step.{IsEffect}
use Rattle.session_core.specs.Turn.{turn_at, is_published}
use Rattle.session_core.proofs.EventLaws.{with_bodies}
use Rattle.session_core.proofs.ListedLaws.{turn_listed, sound_again, sound_new}
use Rattle.session_core.proofs.TextLaws.{TellsList, listed, number_within, publish_again, publish_new}
use Rattle.session_core.proofs.session_state.SessionState.publish.Goals as goal

pub list_of-requires-clause-given : goal.list_of-requires-clause-given
list_of-requires-clause-given g c = number_within c.self.inside.store.store c.args.path c.in-Some.document c.in-Some.ensures

pub returns-then-is_queued : goal.returns-then-is_queued
returns-then-is_queued g c =
    let fields = c.self.inside in
    let s : State = record { stage = fields.stage; root = fields.root; budget = fields.budget; configuration = fields.configuration; store = fields.store.store; queue = fields.queue.items; published = fields.published.items; debuggers = fields.debuggers; waiting = fields.waiting } in
    let n = c.args.path in
    let here : is_queued fields.listed.items n ≡ true = ap (λ q. is_queued q n) (sym c.deref.ensures.value) ∙ sym c.is_queued.ensures ∙ c.if-is_queued.true in
    with_bodies _ _ _ _ c.none-then-is_queued.ensures
    (subst (λ z. IsEffect (turn_at z n (document_at z.store n)) z []) c.self.view_is (turn_listed s fields.listed.items n c.self.invariant.sound here))

pub returns-then-is_published : goal.returns-then-is_published
returns-then-is_published g c =
    let fields = c.self.inside in
    let s : State = record { stage = fields.stage; root = fields.root; budget = fields.budget; configuration = fields.configuration; store = fields.store.store; queue = fields.queue.items; published = fields.published.items; debuggers = fields.debuggers; waiting = fields.waiting } in
    let n = c.args.path in
    let shown = c.in-Some.document in
    let list = c.in_ok-list.list in
    let told : TellsList s n shown list =
    λ document found shows. c.in_ok-list.ensures document found shows
    ∙ ap (λ r. diagnostics_of r fields.configuration fields.store.store fields.budget n document) c.as_ref.ensures.value in
    let is = listed s n shown list c.in-Some.ensures told in
    let old : is_published (last_list fields.published.items n) shown.version list ≡ true =
    ap (λ p. is_published (last_list p n) shown.version list) (sym c.deref-3.ensures.value)
    ∙ sym c.is_published.ensures ∙ c.if-is_published.true in
    with_bodies _ _ _ _ c.none-then-is_published.ensures
    (subst (λ z. IsEffect (turn_at z n (document_at z.store n)) s []) c.self.view_is (publish_again s n shown list is old))

pub invariant_of-self-then-is_published : goal.invariant_of-self-then-is_published
invariant_of-self-then-is_published g c =
    let fields = c.self.inside in
    let s : State = record { stage = fields.stage; root = fields.root; budget = fields.budget; configuration = fields.configuration; store = fields.store.store; queue = fields.queue.items; published = fields.published.items; debuggers = fields.debuggers; waiting = fields.waiting } in
    let n = c.args.path in
    let shown = c.in-Some.document in
    let list = c.in_ok-list.list in
    let told : TellsList s n shown list =
    λ document found shows. c.in_ok-list.ensures document found shows
    ∙ ap (λ r. diagnostics_of r fields.configuration fields.store.store fields.budget n document) c.as_ref.ensures.value in
    let is = listed s n shown list c.in-Some.ensures told in
    let old : is_published (last_list fields.published.items n) shown.version list ≡ true =
    ap (λ p. is_published (last_list p n) shown.version list) (sym c.deref-3.ensures.value)
    ∙ sym c.is_published.ensures ∙ c.if-is_published.true in
    record {
      sound = subst (λ l. IsSound l (around_of s) fields.store.store fields.published.items) (sym (c.push_reserved.ensures.items ∙ ap (λ l. l ++ n ∷ []) c.in_ok-reserve.ensures.items))
          (sound_again s fields.listed.items n shown list is old c.self.invariant.sound);
      folders_are = c.self.invariant.folders_are;
      index_is = c.in_ok-index.ensures.index;
      names_are = c.self.invariant.names_are;
    }

pub invariant_of-self-2 : goal.invariant_of-self-2
invariant_of-self-2 g c =
    let fields = c.self.inside in
    let s : State = record { stage = fields.stage; root = fields.root; budget = fields.budget; configuration = fields.configuration; store = fields.store.store; queue = fields.queue.items; published = fields.published.items; debuggers = fields.debuggers; waiting = fields.waiting } in
    let n = c.args.path in
    let shown = c.in-Some.document in
    let list = c.in_ok-list.list in
    let told : TellsList s n shown list =
    λ document found shows. c.in_ok-list.ensures document found shows
    ∙ ap (λ r. diagnostics_of r fields.configuration fields.store.store fields.budget n document) c.as_ref.ensures.value in
    let is = listed s n shown list c.in-Some.ensures told in
    let kept : c.keep_list.new.published.items ≡ with_list fields.published.items (record { path = n; version = shown.version; list = list }) =
    c.in_ok-keep_list.ensures.ok ∙ ap (with_list fields.published.items) (c.listed_as.ensures ∙ ap (λ l. record { path = n; version = shown.version; list = l }) c.in_ok-body.ensures.list) in
    record {
      sound = subst (λ l. IsSound l (around_of s) fields.store.store c.keep_list.new.published.items) (sym (c.push_reserved-2.ensures.items ∙ ap (λ l. l ++ n ∷ []) c.in_ok-reserve.ensures.items))
          (sound_new s fields.listed.items n shown list c.keep_list.new.published.items is kept c.self.invariant.sound);
      folders_are = c.self.invariant.folders_are;
      index_is = c.in_ok-index.ensures.index;
      names_are = c.self.invariant.names_are;
    }

pub returns : goal.returns
returns g c =
    let fields = c.self.inside in
    let s : State = record { stage = fields.stage; root = fields.root; budget = fields.budget; configuration = fields.configuration; store = fields.store.store; queue = fields.queue.items; published = fields.published.items; debuggers = fields.debuggers; waiting = fields.waiting } in
    let n = c.args.path in
    let shown = c.in-Some.document in
    let list = c.in_ok-list.list in
    let told : TellsList s n shown list =
    λ document found shows. c.in_ok-list.ensures document found shows
    ∙ ap (λ r. diagnostics_of r fields.configuration fields.store.store fields.budget n document) c.as_ref.ensures.value in
    let is = listed s n shown list c.in-Some.ensures told in
    let fresh : is_published (last_list fields.published.items n) shown.version list ≡ false =
    ap (λ p. is_published (last_list p n) shown.version list) (sym c.deref-3.ensures.value)
    ∙ sym c.is_published.ensures ∙ c.if-is_published.false in
    let kept : c.keep_list.new.published.items ≡ with_list fields.published.items (record { path = n; version = shown.version; list = list }) =
    c.in_ok-keep_list.ensures.ok ∙ ap (with_list fields.published.items) (c.listed_as.ensures ∙ ap (λ l. record { path = n; version = shown.version; list = l }) c.in_ok-body.ensures.list) in
    let now : State = record s { published = c.keep_list.new.published.items } in
    let new = publish_new s n shown list c.in_ok-body.body.items _ is fresh c.in_ok-body.ensures.body kept in
    let step = subst (λ z. IsEffect (turn_at z n (document_at z.store n)) now (c.in_ok-body.body.items ∷ [])) c.self.view_is new in
    with_bodies _ _ _ c.in_ok-bodies.bodies c.in_ok-bodies.ensures step
