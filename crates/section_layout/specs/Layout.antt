-- The layout of generated statements (HLASM Language Reference SC26-4940, "Program sectioning", "Location counter", "Literal pool",
-- "Symbols"): they are laid out one after the other; behind the last one the last pool is placed, which is said of that statement;
-- then deferred EQUs are settled, and what is left is judged by what is known then.
use Rattle.std.specs.Prelude.{ℕ, List, [], Option, Some, None, map, slice_get}
use Rattle.hl_base.specs.declared.set.Line.{Line}
use Rattle.literal_places.specs.declared.literals.LiteralUse.{LiteralUse}
use Rattle.literal_places.specs.Places.{Literals}
use Rattle.note_rows.specs.declared.row.Row.{Row}
use Rattle.ordinary_symbols.specs.Rounds.{resolved}
use Rattle.ordinary_symbols.specs.Table as symbols
use Rattle.section_table.specs.declared.table.Place.{Place}
use Rattle.trace_values.specs.declared.section.Reloc.{Reloc}
use Rattle.trace_values.specs.declared.section.Section.{Section}
use Rattle.section_steps.specs.Pools.{last_behind, said_of_last}
use Rattle.section_steps.specs.States.{State, Left, nothing_yet}
use Rattle.section_layout.specs.Rows as notes
use Rattle.section_layout.specs.SectionLists.{sections_of}
use Rattle.section_layout.specs.Walks.{Met, all_met, all_behind, also_said_of_last}

-- a statement: where it stands and how many bytes it takes, the value of `*`, its literals, how many symbols there are behind it,
-- what is said, and of which expressions it was said
pub record Statement : Type 0 where
  pub place : Option Place
  pub bytes : ℕ
  pub here : Option Reloc
  pub uses : List (Option LiteralUse)
  pub symbols : ℕ
  pub rows : List Row
  pub left : Left

pub record Layout : Type 0 where
  pub statements : List Statement
  pub sections : List Section
  pub literals : Literals
  pub symbols : symbols.Table

-- a statement when all symbols are known
unfoldable pub judged : symbols.Table → Met → Statement
judged table one = record {
  place = one.laid.place;
  bytes = one.laid.bytes;
  here = one.laid.here;
  uses = one.laid.uses;
  symbols = one.symbols;
  rows = notes.rows table one.laid;
  left = one.laid.left;
}

-- the layout of statements that were met, with what there is behind them
unfoldable pub settled : List Met → State → Layout
settled all state = record {
  statements = map (judged (resolved state.symbols)) all;
  sections = sections_of state.sections;
  literals = state.literals;
  symbols = resolved state.symbols;
}

-- behind the last of them the last pool is placed
unfoldable pub ended : List Met → State → Layout
ended all state = settled (also_said_of_last (said_of_last state) all) (last_behind state)

-- the layout of these generated lines
unfoldable pub layout_of : List Line → Layout
layout_of lines = ended (all_met lines nothing_yet) (all_behind lines nothing_yet)

-- what is said of the statement of a number, counted from 0
abbrev pub rows_by : Option Statement → List Row
rows_by None = []
rows_by (Some statement) = statement.rows

abbrev pub rows_of : Layout → ℕ → List Row
rows_of layout number = rows_by (slice_get layout.statements number)
