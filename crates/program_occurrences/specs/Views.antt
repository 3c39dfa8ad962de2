-- What is known where a point is met, as the code holds it.
use Rattle.running_calls.specs.Calls.{held}
use Rattle.program_occurrences.specs.Occurrences.{Situation}
use Rattle.program_occurrences.specs.declared.point.Met.{Met}

abbrev pub situation_of : Met → Situation
situation_of met = record { calls = held met.calls.now; level = met.level; variables = met.variables.now; first = met.first }
