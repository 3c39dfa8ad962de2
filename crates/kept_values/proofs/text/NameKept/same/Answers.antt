use Rattle.std.proofs.Common.{ap}
use Rattle.kept_values.specs.Lists.{list_tree}
use Rattle.kept_values.proofs.ListLaws.{list_tree-one}
use Rattle.kept_values.proofs.text.NameKept.same.Goals as goal

pub returns : goal.returns
returns c = (λ is. ap list_tree (c.same_name.ensures.0 is), λ is. c.same_name.ensures.1 (list_tree-one _ _ is))
