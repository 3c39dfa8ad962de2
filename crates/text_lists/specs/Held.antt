-- Texts as the map that holds them. No public clause cites this file. This project.
use Rattle.std.specs.Prelude.{ℕ, List, map}
use Rattle.statement_listing.specs.Listings.{Listed}
use Rattle.text_lists.specs.Lists.{Source}

-- a text under its path
abbrev pub source_in : ℕ × List Listed → Source
source_in entry = record { path = entry.0; list = entry.1 }

abbrev pub sources_in : List (ℕ × List Listed) → List Source
sources_in entries = map source_in entries
