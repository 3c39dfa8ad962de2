-- Where literal pools stand (HLASM Language Reference SC26-4940, "Literal pool", "LTORG instruction"): on a doubleword, those of
-- LTORG in the current section, and the last one, which END or the last statement places where it has a literal, behind the first
-- control section, or behind the first section where there is no control section.
use Rattle.std.specs.Prelude.{ℕ, ◌+◌, ◌==◌, Bool, false, not, List, [], ◌∷◌, length, sum, Option, Some, None, unwrap_or, if◌then◌else◌}
use Rattle.literal_places.specs.Places.{Literals, closed_at}
use Rattle.literal_pools.specs.Pools.{lengths}
use Rattle.note_rows.specs.declared.row.Row.{Row}
use Rattle.section_table.specs.declared.table.Place.{Place}
use Rattle.section_table.specs.Spans as spans
use Rattle.section_table.specs.Spans.{Span}
use Rattle.section_table.specs.Tables as sections
use Rattle.section_table.specs.Tables.{Table}
use Rattle.section_steps.specs.Instructions.{too_long}
use Rattle.section_steps.specs.Labels.{plain, with_label, said_of_label}
use Rattle.section_steps.specs.Places.{value_at, fits, stand, bytes_between}
use Rattle.section_steps.specs.States.{State, Laid, Nothing}

-- how many bytes the open pool takes
abbrev pub size : Literals → ℕ
size literals = sum (lengths literals.current)

-- the open pool is closed in the current section of a table, whose sections stand then for those of the state
unfoldable pub pool_closed : Table → State → State
pool_closed table state = record state {
  sections = sections.taken 8 (size state.literals) table;
  literals = closed_at (sections.begins 8 (size state.literals) table) state.literals;
}

unfoldable pub said_of_pool : Table → State → List Row
said_of_pool table state = too_long (fits 8 (size state.literals) table)

-- LTORG: its label is the start of the pool
unfoldable pub pool_place : State → Option Place
pool_place state = stand 8 (size state.literals) state.sections

unfoldable pub pool_behind : Option (List ℕ) → State → State
pool_behind label state = record (pool_closed state.sections state) { symbols = with_label label (pool_place state) plain state.symbols }

unfoldable pub pool_laid : Option (List ℕ) → State → Laid
pool_laid label state = record {
  place = pool_place state;
  bytes = bytes_between (pool_place state) (sections.here (pool_closed state.sections state).sections);
  here = value_at (pool_place state);
  uses = [];
  said = said_of_pool state.sections state;
  said_of_symbols = said_of_label label state.symbols;
  left = Nothing;
}

-- whether a section is a control section, which neither a dummy section is, nor what is none
abbrev pub is_control : Option Span → Bool
is_control None = false
is_control (Some span) = not span.dummy

-- the number of the first control section among those from a number on
abbrev pub control_from : (number : ℕ) → List Span → Option ℕ
control_from number [] = None
control_from number (span ∷ spans) = if not span.dummy then Some number else control_from (number + 1) spans

-- the number of the section behind which the last pool stands
abbrev pub last_home : List Span → ℕ
last_home all = unwrap_or (control_from 0 all) 0

-- the sections where the counter stands at the end of that one
unfoldable pub at_home : Table → Table
at_home table = sections.changed spans.org_to_end (sections.resumed (last_home table.spans) table)

-- the section of a place is resumed
abbrev pub back_at : Option Place → Table → Table
back_at None table = table
back_at (Some place) table = sections.resumed place.section table

-- whether there is a last pool
abbrev pub has_literals : State → Bool
has_literals state = not (length state.literals.current == 0)

unfoldable pub last_closed : State → State
last_closed state =
    let closed = pool_closed (at_home state.sections) state in
    record closed { sections = back_at (sections.here state.sections) closed.sections }

-- the state behind the last pool, and what is said of it
unfoldable pub last_behind : State → State
last_behind state = if has_literals state then last_closed state else state

unfoldable pub said_of_last : State → List Row
said_of_last state = if has_literals state then said_of_pool (at_home state.sections) state else []
