use Rattle.question_trees.proofs.Following.{leads_as_far}
use Rattle.question_trees.proofs.laws.evaluations_lead_as_far.Goals as goal

pub returns : goal.returns
returns g c = leads_as_far _ _
