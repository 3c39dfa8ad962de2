use Rattle.document_store.proofs.PlaceLemmas.{text_of_rest}
use Rattle.document_store.proofs.SeekLemmas.{over_cut, over_rest}
use Rattle.document_store.proofs.seeking.bytes_over.Goals as goal

pub overflow_sub-result : goal.overflow_sub-result
overflow_sub-result c = text_of_rest c.args.text.now c.args.rest.now c.args._line c.utf8.text c.utf8.rest (record { is = c.requires })

pub returns-clause-cut : goal.returns-clause-cut
returns-clause-cut c = over_cut c.args.text.now c.args.rest.now c.args._line c.utf8.text c.utf8.rest c.requires

pub returns-clause-rest : goal.returns-clause-rest
returns-clause-rest c = over_rest c.args.text.now c.args.rest.now c.args._line c.utf8.text c.utf8.rest c.requires
