use Rattle.std.proofs.Common.{◌∙◌}
use Rattle.document_store.proofs.PathLemmas.{number_of-keys}
use Rattle.document_store.proofs.paths.number_in.Goals as goal

pub returns : goal.returns
returns c = c.get_index_of.ensures.index ∙ number_of-keys c.args.paths.now.keys c.args.path.now c.utf8.path
