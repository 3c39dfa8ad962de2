use Rattle.std.proofs.Common.{◌≡◌, ◌∙◌, None, sym, ap}
use Rattle.std.specs.Map.{lookup}
use Rattle.statement_listing.specs.Sources.{noted, spells}
use Rattle.statement_listing.proofs.IndexLaws.{copied-none, lookup-noted}
use Rattle.statement_listing.proofs.index.note_label.Goals as goal

pub returns : goal.returns
returns c =
    let old = c.args.places.now in
    let label = c.args.label.now in
    let none : lookup (spells label) old.entries ≡ None =
    sym (c.get.ensures.value ∙ ap (λ l. lookup (spells l) old.entries) c.text.ensures)
    ∙ copied-none c.get.result (sym c.is_some.ensures ∙ c.if-is_some.false) in
    λ name.
    lookup-noted name label old c.insert.new.self.entries c.in_ok-key.key c.in_ok-place.place none (c.in_ok-key.ensures.ok ∙ c.text-2.ensures) c.in_ok-insert.ensures.entries
    ∙ ap (noted (lookup (spells name) old.entries) name label) c.in_ok-place.ensures
