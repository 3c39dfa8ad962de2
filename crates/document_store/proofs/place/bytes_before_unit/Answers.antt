use Rattle.std.proofs.Common.{◌∙◌, refl, ap}
use Rattle.std.specs.Prelude.{chars}
use Rattle.document_store.specs.Places.{bytes_before}
use Rattle.document_store.specs.Positions.{characters_before}
use Rattle.document_store.proofs.PlaceLemmas.{plain_bytes}
use Rattle.document_store.proofs.place.bytes_before_unit.Goals as goal

pub returns-then-are_plain : goal.returns-then-are_plain
returns-then-are_plain c = plain_bytes c.args.text.now c.args.unit c.utf8.text (c.if-are_plain.ensures refl)

pub returns : goal.returns
returns c =
    c.before_unit.ensures.bytes
    ∙ ap (bytes_before (chars c.first_line.result.now)) c.before_unit.ensures.characters
    ∙ ap (λ line. bytes_before line (characters_before c.args.unit line)) c.first_line.ensures
