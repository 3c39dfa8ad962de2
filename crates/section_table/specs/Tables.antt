-- The sections of an assembly (HLASM Language Reference SC26-4940, "Program sectioning", "CSECT instruction", "DSECT
-- instruction", "START instruction"). That a section remains what it was begun as is this project's.
use Rattle.std.specs.Prelude.{ℕ, Bool, false, List, [], ◌∷◌, ◌++◌, Option, Some, None, length, position, slice_get, slice_set}
use Rattle.std.specs.Option.{option_map, option_or}
use Rattle.std.specs.Str.{bytes_eq}
use Rattle.location_counter.specs.Counters.{aligned}
use Rattle.section_table.specs.declared.table.Place.{Place}
use Rattle.section_table.specs.Spans as spans
use Rattle.section_table.specs.Spans.{Span}

-- the sections in the order in which they begin: their names, of which that of the unnamed one is empty, and how far each has
-- come; and the place of the current one in this order
pub record Table : Type 0 where
  pub names : List (List ℕ)
  pub spans : List Span
  pub current : Option ℕ

-- no section
abbrev pub empty : Table
empty = record { names = []; spans = []; current = None }

-- the place of the section of a name
abbrev pub named : Table → List ℕ → Option ℕ
named table name = position (bytes_eq name) table.names

-- a section that is there is resumed; another one begins behind all others
abbrev pub entered : Option ℕ → List ℕ → Bool → Table → Table
entered (Some place) name dummy table = record { names = table.names; spans = table.spans; current = Some place }
entered None name dummy table = record {
  names = table.names ++ name ∷ [];
  spans = table.spans ++ spans.fresh dummy ∷ [];
  current = Some (length table.spans);
}

abbrev pub resumed : ℕ → Table → Table
resumed place table = record { names = table.names; spans = table.spans; current = Some place }

abbrev pub enter : List ℕ → Bool → Table → Table
enter name dummy table = entered (named table name) name dummy table

-- a place is needed: where there is no current section the unnamed one begins
abbrev pub needed_by : Option ℕ → Table → Table
needed_by (Some place) table = table
needed_by None table = enter [] false table

abbrev pub needed : Table → Table
needed table = needed_by table.current table

-- how far the current section has come
abbrev pub span_in : Option ℕ → List Span → Option Span
span_in (Some place) all = slice_get all place
span_in None all = None

abbrev pub span_now : Table → Option Span
span_now table = span_in table.current table.spans

-- a place in the current section
abbrev pub placed_in : Option ℕ → Option ℕ → Option Place
placed_in None offset = None
placed_in (Some section) None = None
placed_in (Some section) (Some offset) = Some (record { section = section; offset = offset })

-- where the counter of the current section stands, and the next multiple of a boundary there
abbrev pub here : Table → Option Place
here table = placed_in table.current (option_map (λ (span : Span). span.at) (span_now table))

-- the table with another span at a place
abbrev pub with_span : ℕ → Span → Table → Table
with_span place span table = record { names = table.names; spans = slice_set table.spans place span; current = table.current }

-- what is done to the current section
abbrev pub changed_at : ℕ → (Span → Span) → Option Span → Table → Table
changed_at place change None table = table
changed_at place change (Some span) table = with_span place (change span) table

abbrev pub changed_in : Option ℕ → (Span → Span) → Table → Table
changed_in None change table = table
changed_in (Some place) change table = changed_at place change (slice_get table.spans place) table

abbrev pub changed : (Span → Span) → Table → Table
changed change table = changed_in table.current change table

-- so many bytes on a boundary in the current section: where they begin, and the sections behind them
abbrev pub begins_in : (boundary bytes : ℕ) → Option Span → Option ℕ
begins_in boundary bytes None = None
begins_in boundary bytes (Some span) = spans.begins boundary bytes span

abbrev pub begins : (boundary bytes : ℕ) → Table → Option Place
begins boundary bytes table = placed_in table.current (begins_in boundary bytes (span_now table))

abbrev pub taken : (boundary bytes : ℕ) → Table → Table
taken boundary bytes table = changed (spans.taken boundary bytes) table

-- whether the current section may go on at a place
abbrev pub may_org_in : ℕ → Option Span → Bool
may_org_in at None = false
may_org_in at (Some span) = spans.fits at

abbrev pub may_org : ℕ → Table → Bool
may_org at table = may_org_in at (span_now table)
