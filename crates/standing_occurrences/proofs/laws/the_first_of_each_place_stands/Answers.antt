use Rattle.standing_occurrences.proofs.PlaceLaws.{any_standing, standing-again, standing-behind}
use Rattle.standing_occurrences.proofs.laws.the_first_of_each_place_stands.Goals as goal

pub returns-clause-behind : goal.returns-clause-behind
returns-clause-behind c = standing-behind

pub returns-clause-places : goal.returns-clause-places
returns-clause-places c = any_standing

pub returns-clause-again : goal.returns-clause-again
returns-clause-again c = standing-again
