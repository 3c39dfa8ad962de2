-- Places as they are kept. No public clause cites this file. This project.
use Rattle.std.specs.Prelude.{List, map}
use Rattle.symbol_answers.specs.declared.place.Place.{Place}
use Rattle.symbol_answers.specs.Order.{Spot}

-- the spot of a place
abbrev pub seen : Place → Spot
seen place = record { path = place.path.now; line = place.line; from = place.from; to = place.to; number = place.number }

-- the spots of places
abbrev pub all_seen : List Place → List Spot
all_seen places = map seen places
