use Rattle.document_store.proofs.PlaceLemmas.{place_past_bytes}
use Rattle.document_store.proofs.place.place.Goals as goal

pub returns-in-None : goal.returns-in-None
returns-in-None c = place_past_bytes c.args.text.now c.args.at c.utf8.text c.in-None.ensures
