-- Labels (HLASM Language Reference SC26-4940, "Symbols", "Type attribute (T')").
use Rattle.std.specs.Prelude.{ℕ, List, Option}
use Rattle.hl_base.specs.declared.set.Attr.{Attr}
use Rattle.note_rows.specs.declared.row.Row.{Row}
use Rattle.ordinary_symbols.specs.Table.{Table}
use Rattle.section_table.specs.declared.table.Place.{Place}
use Rattle.symbol_definitions.specs.Equates as equates
use Rattle.section_steps.specs.Places.{value_at}

-- what a label means on a statement of no type and length of its own: U (85), 1
abbrev pub plain : Attr
plain = record { letter = 85; length = 1 }

-- the symbols behind a label on a place, if there is one
abbrev pub with_label : Option (List ℕ) → Option Place → Attr → Table → Table
with_label label place attr table = equates.with_label label (equates.settled_as (value_at place) attr) table

-- what is said of it
abbrev pub said_of_label : Option (List ℕ) → Table → List Row
said_of_label label table = equates.said_of_label label table
