use Rattle.question_trees.proofs.ReadBack.{answer_back}
use Rattle.question_trees.proofs.laws.answers_are_read_back.Goals as goal

pub returns : goal.returns
returns c = answer_back
