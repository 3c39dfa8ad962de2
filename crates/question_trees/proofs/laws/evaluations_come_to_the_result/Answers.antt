use Rattle.question_trees.proofs.Following.{evaluates_to_the_result}
use Rattle.question_trees.proofs.laws.evaluations_come_to_the_result.Goals as goal

pub returns : goal.returns
returns g c = evaluates_to_the_result _
