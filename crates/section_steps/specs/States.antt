-- What there is behind some statements, and what is kept of a statement (this project).
use Rattle.std.specs.Prelude.{ℕ, List, [], Option}
use Rattle.constant_operands.specs.Operands.{Operand}
use Rattle.expression_grammar.specs.Trees.{Tree}
use Rattle.literal_places.specs.declared.literals.LiteralUse.{LiteralUse}
use Rattle.literal_places.specs.Places as literals
use Rattle.literal_places.specs.Places.{Literals}
use Rattle.note_rows.specs.declared.row.Row.{Row}
use Rattle.ordinary_symbols.specs.Table as symbols
use Rattle.section_table.specs.declared.table.Place.{Place}
use Rattle.section_table.specs.Tables as sections
use Rattle.trace_values.specs.declared.section.Reloc.{Reloc}

-- the sections, the symbols, the literals, and how many symbols are external
pub record State : Type 0 where
  pub sections : sections.Table
  pub symbols : symbols.Table
  pub literals : Literals
  pub externals : ℕ

-- What a statement leaves to be judged when all symbols are known: nothing; operands with constants; names that are to be
-- defined; an expression of any value; or an EQU, by the place of the symbol that it defines and the expression of its length.
pub data Left : Type 0 where
  Nothing : Left
  Operands : (operands : List Operand) → Left
  Names : (names : List (List ℕ)) → Left
  Expression : (tree : Tree) → Left
  Equated : (symbol : Option ℕ) (length : Option Tree) → Left

-- A statement that is laid out: where it stands, if there is a section, and how many bytes it takes; the value of `*`; for each
-- of its literals which one of a pool it is, if it was taken; what is said of its place and of the symbols that it defines;
-- and what it leaves.
pub record Laid : Type 0 where
  pub place : Option Place
  pub bytes : ℕ
  pub here : Option Reloc
  pub uses : List (Option LiteralUse)
  pub said : List Row
  pub said_of_symbols : List Row
  pub left : Left

-- what there is before the first statement
abbrev pub nothing_yet : State
nothing_yet = record { sections = sections.empty; symbols = []; literals = literals.empty; externals = 0 }
