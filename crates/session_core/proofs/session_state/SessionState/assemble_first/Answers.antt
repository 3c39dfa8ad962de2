use Rattle.std.proofs.Common.{◌≡◌, ◌∙◌, ap, sym, drop, slice_get}
use Rattle.session_core.specs.State.{State}
use Rattle.session_core.specs.Turn.{without_first}
use Rattle.session_core.proofs.EventLaws.{with_bodies, with_state}
use Rattle.session_core.proofs.ListLaws.{remove_first}
use Rattle.session_core.proofs.TurnLaws.{turn_first, turn_none}
use Rattle.session_core.proofs.session_state.SessionState.assemble_first.Goals as goal

pub returns-in_default : goal.returns-in_default
returns-in_default g c =
    let first : slice_get c.args.self.now.queue 0 ≡ c.copied.result =
    ap (λ (z : State). slice_get z.queue 0) (sym c.self.view_is) ∙ ap (λ q. slice_get q 0) (sym c.deref.ensures.value) ∙ sym c.first.ensures.value ∙ sym c.copied.ensures in
    with_bodies _ _ _ _ c.none.ensures (turn_none c.args.self.now (first ∙ c.in_default.is))

pub returns : goal.returns
returns g c =
    let first : slice_get c.args.self.now.queue 0 ≡ c.copied.result =
    ap (λ (z : State). slice_get z.queue 0) (sym c.self.view_is) ∙ ap (λ q. slice_get q 0) (sym c.deref.ensures.value) ∙ sym c.first.ensures.value ∙ sym c.copied.ensures in
    let done = turn_first c.args.self.now c.publish.new.self c.in-Some.path _ (first ∙ c.in-Some.is) c.in_ok-bodies.ensures in
    let queue : c.remove.new.self.items ≡ drop 1 c.self-2.inside.queue.items = c.remove.ensures.items ∙ remove_first c.self-2.inside.queue.items in
    let fields = c.self-2.inside in
    with_state _ _ _ _ (ap (λ q. record { stage = fields.stage; root = fields.root; budget = fields.budget; configuration = fields.configuration; store = fields.store.store; queue = q; published = fields.published.items; debuggers = fields.debuggers; waiting = fields.waiting }) queue ∙ ap without_first c.self-2.view_is) done
