use Rattle.std.proofs.Common.{◌≡◌, ◌∙◌, Option, ℕ, Some, Ok, ap, sym, subst}
use Rattle.std.specs.Prelude.{chars}
use Rattle.document_store.specs.Store.{number_of}
use Rattle.document_store.specs.Holdings.{Holdings}
use Rattle.document_store.specs.Members.{file_given, placed}
use Rattle.document_store.specs.Inside.{AreCounted}
use Rattle.document_store.proofs.MemberLemmas.{set_known}
use Rattle.document_store.proofs.store.DocumentStore.keep_member.Goals as goal

pub returns-in_ok-replace_file-in-Some-clause-answer : goal.returns-in_ok-replace_file-in-Some-clause-answer
returns-in_ok-replace_file-in-Some-clause-answer c =
    let store = c.args.self.now.store in
    let path = chars c.args.path.now in
    let read = file_given c.args.text in
    let known : number_of store.paths path ≡ Some c.in-Some.number = ap (λ (h : Holdings). number_of h.store.paths path) (sym c.self.view_is) ∙ sym c.number_in-at.ensures ∙ c.in-Some.is in
    let counted : AreCounted c.totals_with-totals.result (placed store.files (Some c.in-Some.number) read) =
    subst (λ (o : Option ℕ). AreCounted c.totals_with-totals.result (placed store.files o read)) c.in-Some.is (c.totals_with-totals.ensures read (sym c.size_read.ensures.size)) in
    set_known store path read c.totals_with-totals.result (sym c.may_stand.ensures ∙ c.if-not-may_stand.false) c.in-Some.number known counted
    ∙ ap Ok (sym c.in_ok-replace_file-in-Some.ensures.replaced)
