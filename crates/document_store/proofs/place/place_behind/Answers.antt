use Rattle.std.proofs.Common.{◌∙◌, ap, drop, ◌-◌}
use Rattle.document_store.proofs.PlaceLemmas.{place_past_bytes, drop-behind}
use Rattle.document_store.proofs.place.place_behind.Goals as goal

pub returns-in-None : goal.returns-in-None
returns-in-None c =
    place_past_bytes c.args.text.now c.args.at c.utf8.text
    (c.in-None.ensures ∙ ap (drop (c.args.at.line - c.args.line)) c.requires.from ∙ drop-behind c.args.line c.args.at.line _ c.requires.behind)
