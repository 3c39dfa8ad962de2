use Rattle.std.specs.Prelude.{chars}
use Rattle.document_store.proofs.CallLemmas.{may_open-short}
use Rattle.document_store.proofs.store.DocumentStore.open_text.Goals as goal

pub admit-requires-clause-short : goal.admit-requires-clause-short
admit-requires-clause-short c =
    may_open-short c.args.self.now.store (chars c.as_str.result.now) c.args.text.now c.in_ok-may_open.field-0 c.utf8.text c.in_ok-may_open.ensures
