use Rattle.asking_core.proofs.FootprintSteps.{stays_found}
use Rattle.asking_core.proofs.footprint.let_find.Goals as goal

pub returns-in_ok-insert-clause-stays : goal.returns-in_ok-insert-clause-stays
returns-in_ok-insert-clause-stays c = stays_found c.args.places.now c.insert.new.self c.args.number c.args.place c.in_ok-insert.ensures.updates.0
