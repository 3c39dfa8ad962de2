use Rattle.std.proofs.Common.{◌∙◌, sym, subst, Option, None}
use Rattle.std.specs.Prelude.{slice_get}
use Rattle.document_store.specs.Store.{OpenDocument}
use Rattle.document_store.specs.Shown.{IsShown}
use Rattle.document_store.proofs.OpenLemmas.{found_at, none_at}
use Rattle.document_store.proofs.store.DocumentStore.document_at.Goals as goal

pub returns-in-Some : goal.returns-in-Some
returns-in-Some c =
    let s = c.args.self.now.store in
    subst (λ (o : Option OpenDocument). IsShown s.paths o c.shown.result)
    (sym (found_at (slice_get s.paths c.args.path.0) s.documents c.in-Some.at (sym c.place.ensures ∙ c.in-Some.is))) c.shown.ensures

pub returns-in-None : goal.returns-in-None
returns-in-None c =
    let s = c.args.self.now.store in
    subst (λ (o : Option OpenDocument). IsShown s.paths o None)
    (sym (none_at (slice_get s.paths c.args.path.0) s.documents (sym c.place.ensures ∙ c.in-None.is))) tt
