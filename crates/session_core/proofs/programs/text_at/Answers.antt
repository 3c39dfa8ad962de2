use Rattle.std.proofs.Common.{Some, ap, ◌∙◌, subst}
use Rattle.text_pool.specs.Pool.{Pool, text_of}
use Rattle.document_store.specs.Shown.{IsPresent}
use Rattle.document_store.specs.Store.{present_at}
use Rattle.document_store.specs.declared.document.MemberText.{MemberText}
use Rattle.document_store.specs.declared.document.MemberText.TheVariants as member
use Rattle.session_core.proofs.ListLaws.{if_ok, if_any}
use Rattle.session_core.proofs.TextLaws.{present_is}
use Rattle.session_core.proofs.programs.text_at.Goals as goal

pub returns-in-Some-File : goal.returns-in-Some-File
returns-in-Some-File c =
    let s = c.args.store.now in
    let is = subst (λ (m : MemberText). IsPresent s.pool (present_at s.store c.args.path.0) (Some m)) c.in-Some-File.field-0-is c.in-Some-File.ensures in
    if_ok c.shared.result (λ text characters. λ document found path number.
    let has = present_is s.store s.pool c.args.path document (Some (member.File c.in-Some-File.text)) is found path number in
    characters ∙ ap (λ (p : Pool). text_of p c.in-Some-File.text.0) c.pool.ensures ∙ has.is) c.shared.ensures.characters

pub returns-in-Some-Unreadable : goal.returns-in-Some-Unreadable
returns-in-Some-Unreadable c =
    let s = c.args.store.now in
    let is = subst (λ (m : MemberText). IsPresent s.pool (present_at s.store c.args.path.0) (Some m)) c.in-Some-Unreadable.field-0-is c.in-Some-Unreadable.ensures in
    if_any c.no_text.result (λ text. λ document found path number.
    absurd (present_is s.store s.pool c.args.path document (Some member.Unreadable) is found path number))

pub returns-in-None : goal.returns-in-None
returns-in-None c = if_any c.no_text-in-None.result (λ text. λ document found path number.
    absurd (present_is c.args.store.now.store c.args.store.now.pool c.args.path document _ c.in-None.ensures found path number))
