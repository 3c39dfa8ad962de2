use Rattle.variable_meanings.proofs.StandLaws.{stands, given}
use Rattle.variable_meanings.proofs.laws.first_meanings_stand.Goals as goal

pub returns-clause-stands : goal.returns-clause-stands
returns-clause-stands c = stands

pub returns-clause-given : goal.returns-clause-given
returns-clause-given c = given
