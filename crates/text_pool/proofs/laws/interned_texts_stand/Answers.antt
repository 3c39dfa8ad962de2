use Rattle.text_pool.proofs.CallerLemmas.{IsInterned-live, IsInterned-text, IsInterned-owners, IsInterned-others, IsInterned-others_text}
use Rattle.text_pool.proofs.laws.interned_texts_stand.Goals as goal

pub returns-clause-given : goal.returns-clause-given
returns-clause-given c = λ old new text id interned.
    (IsInterned-live old new text id interned, IsInterned-text old new text id interned, IsInterned-owners old new text id interned)

pub returns-clause-others : goal.returns-clause-others
returns-clause-others c = λ old new text id other interned live.
    (IsInterned-others old new text id interned other live, IsInterned-others_text old new text id interned other live)
