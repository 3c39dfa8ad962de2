use Rattle.document_store.proofs.OpenLemmas.{HaveNumbers-kept}
use Rattle.document_store.proofs.store.documents_have_numbers.Goals as goal

pub returns : goal.returns
returns c = HaveNumbers-kept _ _ _ _ _ c.store.view_is c.store.invariant.0
