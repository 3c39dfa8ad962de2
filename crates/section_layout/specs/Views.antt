-- What the program's values are (this project).
use Rattle.std.specs.Prelude.{List, map}
use Rattle.std.specs.Borrow.{Bor}
use Rattle.hl_base.specs.declared.set.Line.{Line}
use Rattle.literal_places.specs.Shown.{literals_of}
use Rattle.ordinary_symbols.specs.Shown.{table_of}
use Rattle.section_steps.specs.Views.{left_of}
use Rattle.section_layout.specs.declared.layout.Layout as layout
use Rattle.section_layout.specs.declared.layout.StatementLayout as statement
use Rattle.section_layout.specs.Layout as spec
use Rattle.section_layout.specs.Walks as walks

-- lines that are lent
abbrev pub lines_of : List (Bor Line) → List Line
lines_of lines = map (λ line. line.now) lines

-- a statement that was laid out and is still to be judged: its rows are those of its place
abbrev pub met_of : statement.StatementLayout → walks.Met
met_of one = record {
  laid = record {
    place = one.place;
    bytes = one.bytes;
    here = one.here;
    uses = one.uses.items;
    said = one.rows.items;
    said_of_symbols = one.said_of_symbols.items;
    left = left_of one.left;
  };
  symbols = one.symbols;
}

abbrev pub statement_of : statement.StatementLayout → spec.Statement
statement_of one = record {
  place = one.place;
  bytes = one.bytes;
  here = one.here;
  uses = one.uses.items;
  symbols = one.symbols;
  rows = one.rows.items;
  left = left_of one.left;
}

abbrev pub layout_view : layout.Layout → spec.Layout
layout_view layout = record {
  statements = map statement_of layout.statements.items;
  sections = layout.sections;
  literals = literals_of layout.literals;
  symbols = table_of layout.symbols;
}
