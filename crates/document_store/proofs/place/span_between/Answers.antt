use Rattle.document_store.proofs.PlaceLemmas.{place_past_bytes, drop-past, lines_in_order}
use Rattle.document_store.proofs.place.span_between.Goals as goal

pub returns-in-None-clause-start : goal.returns-in-None-clause-start
returns-in-None-clause-start c = place_past_bytes c.args.text.now c.args.from c.utf8.text c.in-None.ensures

pub returns-in-None-clause-end : goal.returns-in-None-clause-end
returns-in-None-clause-end c =
    place_past_bytes c.args.text.now c.args.to c.utf8.text
    (drop-past c.args.from.line c.args.to.line _ (lines_in_order c.args.from c.args.to c.requires) c.in-None.ensures)
