use Rattle.std.proofs.lemmas.Str.{IsCharBoundary-start}
use Rattle.document_store.proofs.seeking.line_start.Goals as goal

pub returns-in-None-clause-cut : goal.returns-in-None-clause-cut
returns-in-None-clause-cut c = IsCharBoundary-start c.args.text.now c.utf8.text
