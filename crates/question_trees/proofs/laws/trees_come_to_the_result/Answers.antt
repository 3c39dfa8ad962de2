use Rattle.question_trees.proofs.Following.{comes_to_the_result}
use Rattle.question_trees.proofs.laws.trees_come_to_the_result.Goals as goal

pub returns : goal.returns
returns g c = comes_to_the_result _ _
