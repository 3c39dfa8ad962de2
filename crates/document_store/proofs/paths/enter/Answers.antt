use Rattle.std.proofs.Common.{◌∙◌, ap, sym}
use Rattle.document_store.specs.Inside.{paths_in}
use Rattle.document_store.proofs.PathLemmas.{paths_in-insert_key, beside_path-added}
use Rattle.document_store.proofs.paths.enter.Goals as goal

pub returns-clause-paths : goal.returns-clause-paths
returns-clause-paths c = ap paths_in c.in-Ok.ensures.keys ∙ paths_in-insert_key c.args.paths.now.keys c.args.path

pub returns-clause-files : goal.returns-clause-files
returns-clause-files c =
    c.put_beside.ensures
    ∙ sym (beside_path-added c.args.paths.now.keys c.args.path c.in-Ok.added c.in-Ok.ensures.added c.args.files.now.items c.args.file)
