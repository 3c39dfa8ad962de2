use Rattle.std.proofs.Common.{◌<◌, length}
use Rattle.hlasm_statements.specs.Places.{places_in}
use Rattle.hlasm_statements.proofs.PlacesLaws.{IsLeft}
use Rattle.hlasm_statements.proofs.places.Places.at.Given as goal

-- the place is among those that are left
abbrev pub invariant-loop-run : goal.invariant-loop-run
invariant-loop-run l = l.index < length (places_in l.self-inside.full.items l.self-inside.last) → IsLeft l.self-inside.full.items l.self-inside.last l.run-index l.left l.index
