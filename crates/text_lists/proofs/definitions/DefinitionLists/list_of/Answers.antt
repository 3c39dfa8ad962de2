use Rattle.std.proofs.Common.{◌∙◌, sym, ap}
use Rattle.std.specs.Map.{lookup}
use Rattle.text_lists.specs.Definitions.{list_of}
use Rattle.text_lists.specs.contracts.definitions.PlacePartialEq.TheImpl as place_eq
use Rattle.text_lists.proofs.DefinitionLaws.{list_of-lookup}
use Rattle.text_lists.proofs.definitions.DefinitionLists.list_of.Goals as goal

pub returns : goal.returns
returns c =
    let entries = c.self.inside.lists.entries in
    c.get.ensures.value
    ∙ ap (λ place. lookup ((place_eq.ghosts).eq place) entries) c.place_of.ensures
    ∙ sym (list_of-lookup entries c.args.origin)
    ∙ ap (λ known. list_of known c.args.origin) c.self.view_is
