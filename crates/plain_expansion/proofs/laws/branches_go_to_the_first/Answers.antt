use Rattle.plain_expansion.proofs.FirstPlace.{first-is}
use Rattle.plain_expansion.proofs.laws.branches_go_to_the_first.Goals as goal

pub returns : goal.returns
returns g c = λ holds list. first-is _ holds list
