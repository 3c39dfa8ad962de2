-- The ordinary symbols of a program, each with the stack of the statement that defines it, and its sections (this project).
use Rattle.std.specs.Prelude.{ℕ, ◌+◌, ◌-◌, List, [], ◌∷◌, ◌++◌, map, length, take, drop, Option, Some, None, slice_get}
use Rattle.hl_base.specs.declared.place.Frame.{Frame}
use Rattle.hl_base.specs.declared.set.Line.{Line}
use Rattle.ordinary_symbols.specs.Table.{Table, Entry}
use Rattle.program_assembly.specs.Statements.{generated, own_line}
use Rattle.program_assembly.specs.Layout.{Layout, Statement, layout_of}
use Rattle.trace_arena.specs.Points.{Point}
use Rattle.trace_cursor.specs.Stacks.{stack_of}
use Rattle.trace_values.specs.declared.item.TraceItem.{TraceItem}
use Rattle.trace_values.specs.declared.section.Section.{Section}
use Rattle.trace_values.specs.declared.symbol_row.SymbolRow.{SymbolRow}

-- a symbol, defined by a statement of this stack
abbrev pub row_at : List Frame → Entry → SymbolRow
row_at stack entry = record entry.row { stack = stack }

-- the symbols from one place of a table up to another
abbrev pub rows_between : Table → (stack : List Frame) → (before behind : ℕ) → List SymbolRow
rows_between table stack before behind = map (row_at stack) (take (behind - before) (drop before table))

-- how many symbols there are behind a statement, where there are so many before it; of one that generated nothing as many
abbrev pub symbols_behind : Option Statement → (before : ℕ) → ℕ
symbols_behind None before = before
symbols_behind (Some statement) before = statement.symbols

-- the statement that an item generated, by its number, if it generated one
abbrev pub statement_of : Layout → (number : ℕ) → Option Line → Option Statement
statement_of layout number None = None
statement_of layout number (Some line) = slice_get layout.statements number

-- how many symbols there are behind a point that so many generated statements precede
abbrev pub behind_point : Layout → (number before : ℕ) → Point TraceItem → ℕ
behind_point layout number before point = symbols_behind (statement_of layout number point.item.line) before

-- the symbols that these points define, in turn: each point those behind its statement that are not there before it
abbrev pub rows_from : Layout → (number before : ℕ) → List (Point TraceItem) → List SymbolRow
rows_from layout number before [] = []
rows_from layout number before (point ∷ points) =
    rows_between layout.symbols (stack_of point) before (behind_point layout number before point)
    ++ rows_from layout (number + length (own_line point)) (behind_point layout number before point) points

-- the symbols of a program, in the order of definition
unfoldable pub rows_of : List (Point TraceItem) → List SymbolRow
rows_of points = rows_from (layout_of (generated points)) 0 0 points

-- its sections, by their numbers
unfoldable pub sections_of : List (Point TraceItem) → List Section
sections_of points = (layout_of (generated points)).sections
