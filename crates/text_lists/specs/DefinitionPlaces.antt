-- Places as keys. No public clause cites this file. This project.
use Rattle.hl_base.specs.declared.place.Origin.{Origin}
use Rattle.text_lists.specs.declared.definitions.Place.{Place}

abbrev pub place_of : Origin → Place
place_of origin = record { path = origin.path.0; line = origin.line }
