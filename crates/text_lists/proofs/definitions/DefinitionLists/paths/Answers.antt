use Rattle.std.proofs.Common.{ap, sym, ◌∙◌}
use Rattle.std.specs.List.{flat_map}
use Rattle.std.proofs.lemmas.Result.{IfOk-weaker}
use Rattle.text_lists.specs.Definitions.{defined_paths}
use Rattle.text_lists.proofs.PathLaws.{paths-defined}
use Rattle.text_lists.proofs.definitions.DefinitionLists.paths.Goals as goal

pub returns : goal.returns
returns c =
    IfOk-weaker c.paths_of.result _ _
    (λ paths is. is ∙ sym (paths-defined c.self.inside.lists.entries) ∙ ap (flat_map defined_paths) c.self.view_is)
    c.paths_of.ensures
