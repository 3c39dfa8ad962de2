-- What is lent of a statement that is processed, as contracts see it.
use Rattle.std.specs.Prelude.{Option, option_map}
use Rattle.statement_reading.specs.Views.{reading_of}
use Rattle.statement_listing.specs.Listings.{Listed, Lent, processed}
use Rattle.statement_listing.specs.declared.listing.Element.{Element}

abbrev pub lent_of : Element → Lent
lent_of one = record { origin = one.origin; reading = reading_of one.reading.now }

-- a line, if it is processed
abbrev pub lent_line : Listed → Option Lent
lent_line one = option_map (λ reading. record { origin = one.origin; reading = reading }) (processed one.statement)
