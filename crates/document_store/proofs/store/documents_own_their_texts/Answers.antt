use Rattle.document_store.proofs.HoldLemmas.{HasTexts-kept, HasFileTexts-kept, IsOwnedByHolders-kept, HasNoOtherTexts-kept, TextsDiffer-kept}
use Rattle.document_store.proofs.store.documents_own_their_texts.Goals as goal

pub returns-clause-texts : goal.returns-clause-texts
returns-clause-texts c = HasTexts-kept _ _ _ _ _ c.store.view_is c.store.invariant.0

pub returns-clause-files : goal.returns-clause-files
returns-clause-files c = HasFileTexts-kept _ _ _ _ _ c.store.view_is c.store.invariant.0

pub returns-clause-owners : goal.returns-clause-owners
returns-clause-owners c = IsOwnedByHolders-kept _ _ _ _ _ c.store.view_is c.store.invariant.0 c.live_texts_differ.ensures.differ

pub returns-clause-others : goal.returns-clause-others
returns-clause-others c =
    HasNoOtherTexts-kept _ _ _ _ _ c.store.view_is c.store.invariant.0 c.live_texts_differ.ensures.differ c.live_texts_differ.ensures.owned

pub returns-clause-differ : goal.returns-clause-differ
returns-clause-differ c = TextsDiffer-kept _ _ _ _ _ c.store.view_is c.store.invariant.0 c.live_texts_differ.ensures.differ
