use Rattle.std.proofs.Common.{ap, codes, w32}
use Rattle.std.proofs.lemmas.Int.{to_z-of_z}
use Rattle.std.specs.Str.{chars}
use Rattle.document_store.specs.Holdings.{Holdings}
use Rattle.session_core.specs.State.{State}
use Rattle.session_core.proofs.EventLaws.{change_refused, opened_same, state_kept}
use Rattle.session_core.proofs.ListLaws.{if_ok}
use Rattle.session_core.proofs.WholeLaws.{whole_opened}
use Rattle.session_core.proofs.StoreLaws.{few_opened}
use Rattle.session_core.proofs.session_state.SessionState.open.Goals as goal

pub queue_programs-requires : goal.queue_programs-requires
queue_programs-requires c = record { few = few_opened c.self.inside.store.store c.open_text.new.self.store (chars c.as_str-uri.result.now) (chars c.as_str-language.result.now) _ (chars c.as_str-text.result.now) c.in-Ok.ensures.answer }

pub invariant_of-self-in_err-queue_programs-in-Ok : goal.invariant_of-self-in_err-queue_programs-in-Ok
invariant_of-self-in_err-queue_programs-in-Ok c =
    let fields = c.self.inside in
    whole_opened fields.listed.items _ fields.folders.items _ fields.index _ _ fields.store.store c.open_text.new.self.store fields.published.items _ _ _ _ _ _
    c.in-Ok.ensures.answer c.deref.ensures.value c.in_ok-member.ensures c.in_ok-path.ensures c.forget_lists.ensures c.self.invariant

pub invariant_of-self-in-Ok : goal.invariant_of-self-in-Ok
invariant_of-self-in-Ok c =
    let fields = c.self.inside in
    whole_opened fields.listed.items _ fields.folders.items _ fields.index _ _ fields.store.store c.open_text.new.self.store fields.published.items _ _ _ _ _ _
    c.in-Ok.ensures.answer c.deref.ensures.value c.in_ok-member.ensures c.in_ok-path.ensures c.forget_lists.ensures c.self.invariant

pub returns-in-Err : goal.returns-in-Err
returns-in-Err c =
    let s = c.args.self.now in
    let fields = c.self.inside in
    let same = opened_same s.store fields.store.store c.args.uri.now _ c.args.language.now _ c.args.version _ c.args.text.now _ (ap (λ (z : State). z.store) c.self.view_is)
    c.as_str-uri.ensures.characters c.as_str-language.ensures.characters (to_z-of_z w32 c.args.version c.ranges.version) c.as_str-text.ensures.characters in
    if_ok c.log_refusal.result (λ bodies logs. change_refused s _ (codes "textDocument/didOpen") _ _ c.in-Err.fault c.open_text.new.self.store bodies same c.in-Err.ensures.answer (state_kept s _ _ _ c.self.view_is (ap (λ (h : Holdings). h.store) c.in-Err.ensures.kept) c.in_ok-reserve.ensures.items) logs) c.log_refusal.ensures
