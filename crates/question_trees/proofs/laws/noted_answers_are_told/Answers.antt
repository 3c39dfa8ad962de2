use Rattle.question_trees.proofs.Following.{tells_what_is_noted}
use Rattle.question_trees.proofs.laws.noted_answers_are_told.Goals as goal

pub returns : goal.returns
returns c = tells_what_is_noted
