use Rattle.std.proofs.Common.{ap, sym, length}
use Rattle.std.proofs.lemmas.Str.{encodes-chars}
use Rattle.document_store.proofs.members.bytes_of.Goals as goal

pub returns-clause-size : goal.returns-clause-size
returns-clause-size c = sym (ap length (encodes-chars c.args.text.now c.utf8.text))
