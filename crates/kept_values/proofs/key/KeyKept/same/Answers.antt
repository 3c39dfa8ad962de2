use Rattle.std.proofs.Common.{ap}
use Rattle.kept_values.specs.Keys.{key_tree}
use Rattle.kept_values.proofs.KeyLaws.{key_tree-one}
use Rattle.kept_values.proofs.key.KeyKept.same.Goals as goal

pub returns : goal.returns
returns c = (λ is. ap key_tree (c.same_key.ensures.0 is), λ is. c.same_key.ensures.1 (key_tree-one _ _ is))
