use Rattle.std.proofs.Common.{ap, sym, ◌∙◌}
use Rattle.std.specs.Prelude.{chars, position}
use Rattle.document_store.specs.Store.{is_at}
use Rattle.document_store.specs.Inside.{is_kept_at}
use Rattle.document_store.specs.Holdings.{Holdings}
use Rattle.document_store.proofs.StoreLemmas.{position_of-documents}
use Rattle.document_store.proofs.store.DocumentStore.find.Goals as goal

pub returns : goal.returns
returns c =
    c.place_in.ensures
    ∙ ap (position (is_kept_at (chars c.args.path.now))) c.as_slice.ensures.value
    ∙ sym (position_of-documents (chars c.args.path.now) c.self.inside.pool c.self.inside.documents.items)
    ∙ ap (λ (h : Holdings). position (is_at (chars c.args.path.now)) h.store.documents) c.self.view_is
