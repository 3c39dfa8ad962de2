use Rattle.std.proofs.Common.{◌∙◌, sym, ap, arith}
use Rattle.std.specs.Prelude.{chars}
use Rattle.std.specs.Option.{option_map}
use Rattle.document_store.proofs.PlaceLemmas.{before-le_bytes}
use Rattle.document_store.proofs.place.column_in.Goals as goal

pub overflow_cast-result : goal.overflow_cast-result
overflow_cast-result c =
    let few = before-le_bytes c.args.text.now (chars c.in-Some.found.now) c.args.at c.utf8.text
    (sym c.requires.line ∙ ap (option_map (λ line. chars line.now)) c.in-Some.is) in
    omega (arith, c.before_unit.ensures.characters, few, c.requires.short)

pub overflow_add-result : goal.overflow_add-result
overflow_add-result c =
    let few = before-le_bytes c.args.text.now (chars c.in-Some.found.now) c.args.at c.utf8.text
    (sym c.requires.line ∙ ap (option_map (λ line. chars line.now)) c.in-Some.is) in
    omega (arith, c.before_unit.ensures.characters, few, c.requires.short)
