use Rattle.called_definitions.specs.Told.{AreFound}
use Rattle.called_definitions.proofs.reading.read_list.Given as goal

-- what was told is what is found
abbrev pub invariant-loop : goal.invariant-loop
invariant-loop g l = AreFound (g.P.Present.members l.present) l.members
