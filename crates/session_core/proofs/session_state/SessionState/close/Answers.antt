use Rattle.std.proofs.Common.{ap, codes, sym, ◌∙◌}
use Rattle.document_store.specs.Holdings.{Holdings}
use Rattle.session_core.specs.State.{State, number_named}
use Rattle.session_core.proofs.EventLaws.{closing_refused, closed_same, state_kept}
use Rattle.session_core.proofs.ListLaws.{if_ok}
use Rattle.session_core.proofs.WholeLaws.{tells_same, whole_closed}
use Rattle.session_core.proofs.StoreLaws.{few_closed}
use Rattle.session_core.proofs.session_state.SessionState.close.Goals as goal

pub queue_programs-requires : goal.queue_programs-requires
queue_programs-requires c = record { few = few_closed _ _ _ c.in-Ok.ensures.answer c.self.invariant.sound.few }

pub invariant_of-self-in_err-queue_programs-in-Ok : goal.invariant_of-self-in_err-queue_programs-in-Ok
invariant_of-self-in_err-queue_programs-in-Ok c =
    let fields = c.self.inside in
    let path = c.in_ok-path.ensures ∙ ap (number_named fields.store.store) (c.as_str.ensures.characters ∙ sym c.as_str-3.ensures.characters) in
    whole_closed fields.listed.items _ fields.folders.items _ fields.index _ _ fields.store.store c.close.new.self.store fields.published.items _ _ _ _
    c.in-Ok.ensures.answer c.deref.ensures.value (tells_same _ _ _ _ (c.as_str-2.ensures.characters ∙ sym c.as_str-3.ensures.characters) c.in_ok-member.ensures) path c.forget_lists.ensures c.forget.ensures.published c.self.invariant

pub invariant_of-self-in-Ok : goal.invariant_of-self-in-Ok
invariant_of-self-in-Ok c =
    let fields = c.self.inside in
    let path = c.in_ok-path.ensures ∙ ap (number_named fields.store.store) (c.as_str.ensures.characters ∙ sym c.as_str-3.ensures.characters) in
    whole_closed fields.listed.items _ fields.folders.items _ fields.index _ _ fields.store.store c.close.new.self.store fields.published.items _ _ _ _
    c.in-Ok.ensures.answer c.deref.ensures.value (tells_same _ _ _ _ (c.as_str-2.ensures.characters ∙ sym c.as_str-3.ensures.characters) c.in_ok-member.ensures) path c.forget_lists.ensures c.forget.ensures.published c.self.invariant

pub returns-in-Err : goal.returns-in-Err
returns-in-Err c =
    let s = c.args.self.now in
    let fields = c.self.inside in
    let same = closed_same s.store fields.store.store c.args.uri.now _ (ap (λ (z : State). z.store) c.self.view_is) c.as_str-3.ensures.characters in
    if_ok c.log_refusal.result (λ bodies logs. closing_refused s _ (codes "textDocument/didClose") (number_named s.store c.args.uri.now) _ _ c.in-Err.fault c.close.new.self.store bodies same c.in-Err.ensures.answer (state_kept s _ _ _ c.self.view_is (ap (λ (h : Holdings). h.store) c.in-Err.ensures.kept) c.in_ok-reserve.ensures.items) logs) c.log_refusal.ensures
