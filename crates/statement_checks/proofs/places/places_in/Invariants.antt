use Rattle.std.proofs.Common.{◌≡◌, ◌++◌, length}
use Rattle.literal_places.specs.Shown.{literals_of}
use Rattle.statement_checks.specs.Places.{places_in}
use Rattle.statement_checks.proofs.places.places_in.Given as goal

-- the places so far, and then those of the literals that are left
abbrev pub invariant-loop-uses : goal.invariant-loop-uses
invariant-loop-uses l = l.places.items ++ places_in (literals_of l.literals) l.uses ≡ places_in (literals_of l.literals) l.initial.uses

abbrev pub decreases-loop-uses : goal.decreases-loop-uses
decreases-loop-uses l = length l.uses
