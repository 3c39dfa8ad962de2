-- The sections of an assembly by their numbers (HLASM Language Reference SC26-4940, "Program sectioning").
use Rattle.std.specs.Prelude.{ℕ, List, Option, Some, None, length, map, slice_get}
use Rattle.std.specs.List.{range_with_len}
use Rattle.hl_base.specs.Symbols.{symbol_of}
use Rattle.section_table.specs.Spans.{Span}
use Rattle.section_table.specs.Tables.{Table}
use Rattle.trace_values.specs.declared.section.Section.{Section}

-- the name of a section, none for the unnamed one, whose name is empty
abbrev pub name_by : Option (List ℕ) → Option (List ℕ)
name_by None = None
name_by (Some name) = symbol_of name

-- its length is the highest place where its counter stood
abbrev pub length_by : Option Span → ℕ
length_by None = 0
length_by (Some span) = span.length

unfoldable pub section_at : Table → ℕ → Section
section_at table number = record { name = name_by (slice_get table.names number); length = length_by (slice_get table.spans number) }

abbrev pub sections_of : Table → List Section
sections_of table = map (section_at table) (range_with_len 0 (length table.spans))
