use Rattle.std.proofs.Common.{◌∙◌, sym, ap}
use Rattle.text_lists.specs.Lists.{list_of}
use Rattle.text_lists.proofs.TextLaws.{list_of-lookup}
use Rattle.text_lists.proofs.lists.TextLists.text_of.Goals as goal

pub returns : goal.returns
returns c =
    c.get.ensures.value ∙ sym (list_of-lookup c.self.inside.texts.entries c.args.path.0) ∙ ap (λ texts. list_of texts c.args.path.0) c.self.view_is
