use Rattle.kept_outcomes.proofs.Ways.{traced_items}
use Rattle.kept_outcomes.proofs.laws.points_are_items.Goals as goal

pub returns : goal.returns
returns g c = traced_items
