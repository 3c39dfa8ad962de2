use Rattle.kept_values.proofs.ListLaws.{list_tree-one}
use Rattle.kept_values.proofs.KeyLaws.{key_tree-one, answer_tree-one}
use Rattle.kept_values.proofs.laws.codes_are_values.Goals as goal

pub returns : goal.returns
returns c = record { keys = key_tree-one; answers = answer_tree-one; texts = list_tree-one }
