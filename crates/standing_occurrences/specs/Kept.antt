-- Occurrences by their places, as they are kept. No public clause cites this file. This project.
use Rattle.trace_values.specs.declared.occurrence.Occurrence.{Occurrence}
use Rattle.standing_occurrences.specs.declared.place.Place.{Place}

-- where an occurrence stands
abbrev pub place_of : Occurrence → Place
place_of occurrence = record { path = occurrence.path.0; line = occurrence.line; from = occurrence.from; to = occurrence.to }
