-- What small functions lend. No public clause cites this file. This project.
use Rattle.macro_library.specs.Extents as extents
use Rattle.macro_library.specs.declared.extent.Headed.{Headed}

-- a line with those behind it
abbrev pub headed_of : Headed → extents.Headed
headed_of h = record { at = h.at; line = h.line.now; rest = h.rest.now }
