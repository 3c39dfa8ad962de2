use Rattle.std.proofs.Common.{◌≡◌, take}
use Rattle.called_definitions.specs.Called.{with_prototypes}
use Rattle.called_definitions.specs.Told.{AreFound}
use Rattle.called_definitions.proofs.gathering.add_definitions.Given as goal

-- the definitions of the places so far are there, and what was told is what is found
abbrev pub invariant-loop-origin : goal.invariant-loop-origin
invariant-loop-origin g l =
    AreFound (g.P.Present.members l.present) l.members
    × (l.known ≡ with_prototypes l.texts (g.P.Present.members l.present) l.initial.known (take l.origin-index l.prototypes))
