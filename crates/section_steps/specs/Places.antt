-- Where statements stand (HLASM Language Reference SC26-4940, "Location counter", "Location counter reference").
use Rattle.std.specs.Prelude.{ℕ, ◌-◌, Bool, Option, Some, None, is_some, pos}
use Rattle.std.specs.Option.{option_map, option_or}
use Rattle.section_table.specs.declared.table.Place.{Place}
use Rattle.section_table.specs.Tables.{Table, begins, here}
use Rattle.trace_values.specs.declared.section.Reloc.{Reloc}

-- a place as the value of a symbol: its offset in the section of its number
abbrev pub reloc_of : Place → Reloc
reloc_of place = record { section = Some (record { 0 = place.section }); value = pos place.offset }

abbrev pub value_at : Option Place → Option Reloc
value_at place = option_map reloc_of place

-- whether so many bytes on a boundary fit into the current section
abbrev pub fits : (boundary bytes : ℕ) → Table → Bool
fits boundary bytes table = is_some (begins boundary bytes table)

-- where they stand; where they do not fit, the place stays
abbrev pub stand : (boundary bytes : ℕ) → Table → Option Place
stand boundary bytes table = option_or (begins boundary bytes table) (here table)

-- how many bytes lie between two places of a section
abbrev pub bytes_between : Option Place → Option Place → ℕ
bytes_between (Some from) (Some to) = to.offset - from.offset
bytes_between (Some from) None = 0
bytes_between None to = 0
