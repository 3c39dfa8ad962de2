use Rattle.std.proofs.Common.{sym, ap, ◌∙◌}
use Rattle.waiting_requests.specs.Bodies.{replies_to}
use Rattle.session_core.specs.Names.{program_names}
use Rattle.session_core.specs.State.{State}
use Rattle.session_core.proofs.NameLaws.{waits_on, waits_not, waits_no_more}
use Rattle.session_core.proofs.session_state.SessionState.answer_waiting.Goals as goal

pub returns-then-has_work : goal.returns-then-has_work
returns-then-has_work g c = waits_on c.args.self.now _ c.if-has_work.ensures c.none.ensures

pub returns-then-is_empty : goal.returns-then-is_empty
returns-then-is_empty g c = waits_not c.args.self.now _ (ap (λ (z : State). z.waiting) (sym c.self.view_is) ∙ c.if-is_empty.ensures) c.none-then-is_empty.ensures

pub invariant_of-self-2 : goal.invariant_of-self-2
invariant_of-self-2 g c = record {
  sound = c.self-2.invariant.sound;
  folders_are = c.self-2.invariant.folders_are;
  index_is = c.self-2.invariant.index_is;
  names_are = c.in_ok-names.ensures.names ∙ ap program_names (sym (c.self-2.view_is ∙ c.in_ok-names.ensures.same));
}

pub returns : goal.returns
returns g c =
    let fields = c.self-2.inside in
    let t : State = record { stage = fields.stage; root = fields.root; budget = fields.budget; configuration = fields.configuration; store = fields.store.store; queue = fields.queue.items; published = fields.published.items; debuggers = fields.debuggers; waiting = fields.waiting } in
    waits_no_more c.args.self.now t c.in_ok-names.names.items c.answer_over.new.waiting _ (c.self-2.view_is ∙ c.in_ok-names.ensures.same) c.if-has_work.ensures c.in_ok-names.ensures.names
    (c.in_ok-bodies.ensures.bodies ∙ ap (λ n. replies_to fields.store.store n fields.waiting) c.deref.ensures.value) c.in_ok-bodies.ensures.waiting
