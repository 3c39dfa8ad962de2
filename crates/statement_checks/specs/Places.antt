-- Where the literals of a statement stand (HLASM Language Reference SC26-4940, "Literal pool").
use Rattle.std.specs.Prelude.{List, Option, Some, None, map}
use Rattle.literal_places.specs.declared.literals.LiteralUse.{LiteralUse}
use Rattle.literal_places.specs.Places.{Literals, place_of}
use Rattle.section_layout.specs.Places.{value_at}
use Rattle.trace_values.specs.declared.section.Reloc.{Reloc}

-- a literal that was refused has no place
abbrev pub place_in : Literals → Option LiteralUse → Option Reloc
place_in literals None = None
place_in literals (Some one) = value_at (place_of literals one)

abbrev pub places_in : Literals → List (Option LiteralUse) → List (Option Reloc)
places_in literals uses = map (place_in literals) uses
