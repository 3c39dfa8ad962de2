use Rattle.document_store.proofs.StoreLemmas.{IsKept-empty, AreWithin-empty}
use Rattle.document_store.proofs.store.DocumentStore.new.Goals as goal

pub invariant_of-result : goal.invariant_of-result
invariant_of-result c = (
  IsKept-empty _ _ _ _ c.new.ensures.empty c.new-2.ensures.items c.new-4.ensures.items c.new-5.ensures,
  AreWithin-empty _ _ _ c.new-2.ensures.items c.new-3.ensures,
)
