-- Definitions as the map that holds them. No public clause cites this file. This project.
use Rattle.std.specs.Prelude.{ℕ, List, map}
use Rattle.hl_base.specs.declared.place.Origin.{Origin}
use Rattle.statement_listing.specs.Listings.{Listed}
use Rattle.text_lists.specs.Definitions.{Defined}
use Rattle.text_lists.specs.declared.definitions.Place.{Place}

abbrev pub origin_of : Place → Origin
origin_of place = record { path = record { 0 = place.path }; line = place.line }

-- statements under the place of a prototype
abbrev pub one_of : Place × List Listed → Defined
one_of entry = record { origin = origin_of entry.0; list = entry.1 }

abbrev pub defined_in : List (Place × List Listed) → List Defined
defined_in entries = map one_of entries
