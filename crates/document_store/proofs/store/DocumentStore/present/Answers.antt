use Rattle.document_store.proofs.ShowLemmas.{present_is, present_file}
use Rattle.document_store.proofs.store.DocumentStore.present.Goals as goal

pub returns-in-None : goal.returns-in-None
returns-in-None c =
    present_file c.args.self.now c.self.inside.paths.keys c.self.inside.files.items c.self.inside.documents.items c.self.inside.pool c.self.view_is c.args.path.0 c.place.result c.place.ensures
    c.self.invariant.0 c.file.result c.in-None.is c.file.ensures

pub returns-in-Some : goal.returns-in-Some
returns-in-Some c =
    present_is c.args.self.now c.self.inside.paths.keys c.self.inside.files.items c.self.inside.documents.items c.self.inside.pool c.self.view_is c.args.path.0 c.place.result c.place.ensures
    c.self.invariant.0 c.in-Some.at c.index.result.now c.in-Some.is c.index.ensures
