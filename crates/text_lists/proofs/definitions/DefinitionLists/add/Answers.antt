use Rattle.std.proofs.Common.{◌∙◌, ap, sym, is_some}
use Rattle.text_lists.specs.DefinitionPlaces.{place_of}
use Rattle.text_lists.proofs.DefinitionLaws.{definition-added}
use Rattle.text_lists.proofs.TextLaws.{copied-none}
use Rattle.indexmap.specs.IndexMap.{insert_entry}
use Rattle.text_lists.specs.contracts.definitions.PlacePartialEq.TheImpl as place_eq
use Rattle.text_lists.proofs.definitions.DefinitionLists.add.Goals as goal

pub returns : goal.returns
returns c =
    definition-added c.self.inside.lists c.insert.new.self.entries c.args.self.now c.args.origin c.args.list c.self.view_is
    (ap is_some (sym c.list_of.ensures ∙ copied-none c.list_of.result (sym c.is_some.ensures ∙ c.if-is_some.false)))
    (c.in_ok-insert.ensures.entries ∙ ap (λ place. insert_entry (place_eq.ghosts).eq c.self.inside.lists.entries place c.args.list) c.place_of.ensures)
