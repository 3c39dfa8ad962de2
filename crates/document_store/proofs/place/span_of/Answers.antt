use Rattle.std.proofs.Common.{◌∙◌, sym, ap}
use Rattle.std.specs.Prelude.{chars}
use Rattle.document_store.specs.Edits.{stop_of}
use Rattle.document_store.specs.Places.{bytes_before}
use Rattle.document_store.proofs.PlaceLemmas.{bytes_before-end}
use Rattle.document_store.proofs.place.span_of.Goals as goal

pub returns-in-Some-None-clause-end : goal.returns-in-Some-None-clause-end
returns-in-Some-None-clause-end c =
    bytes_before-end c.args.text.now c.utf8.text
    ∙ ap (λ to. bytes_before (chars c.args.text.now) (stop_of (chars c.args.text.now) to)) (sym c.in-Some-None.is-1)

pub returns-in-None-None-clause-end : goal.returns-in-None-None-clause-end
returns-in-None-None-clause-end c =
    bytes_before-end c.args.text.now c.utf8.text
    ∙ ap (λ to. bytes_before (chars c.args.text.now) (stop_of (chars c.args.text.now) to)) (sym c.in-None-None.is-1)
