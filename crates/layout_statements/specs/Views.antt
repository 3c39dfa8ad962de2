-- What the program's values are (this project).
use Rattle.std.specs.Prelude.{ℕ, List, Result, Ok, Err, map, option_map}
use Rattle.expression_grammar.specs.Trees.{Tree}
use Rattle.constant_grammar.specs.Views.{tree_in}
use Rattle.constant_operands.specs.Views.{operand_of}
use Rattle.layout_statements.specs.declared.expressions.Reading.{Reading}
use Rattle.layout_statements.specs.declared.expressions.Reading.TheVariants as reading
use Rattle.layout_statements.specs.declared.symbols.ReadSymbol.{ReadSymbol}
use Rattle.layout_statements.specs.declared.symbols.ReadSymbol.TheVariants as symbol
use Rattle.layout_statements.specs.declared.lists.ReadLiteral.{ReadLiteral}
use Rattle.layout_statements.specs.declared.equate.Equate as equate
use Rattle.layout_statements.specs.declared.statement.Task as declared
use Rattle.layout_statements.specs.declared.statement.Task.TheVariants as task
use Rattle.layout_statements.specs.declared.statement.LayoutStatement.{LayoutStatement}
use Rattle.layout_statements.specs.Equates as equates
use Rattle.layout_statements.specs.Lists as lists
use Rattle.layout_statements.specs.Statements as spec

abbrev pub reading_of : Reading → Result Tree ℕ
reading_of (reading.Tree formula) = Ok (tree_in formula)
reading_of (reading.At at) = Err at

abbrev pub symbol_reading_of : ReadSymbol → Result (List ℕ) ℕ
symbol_reading_of (symbol.Name name) = Ok name
symbol_reading_of (symbol.At at) = Err at

abbrev pub read_literal_of : ReadLiteral → lists.Literal
read_literal_of literal = record { text = literal.text; constant = operand_of literal.constant }

abbrev pub equate_of : equate.Equate → equates.Equate
equate_of said = record { value = reading_of said.value; length = option_map reading_of said.length; letter = said.letter }

abbrev pub task_of : declared.Task → spec.Task
task_of (task.Instruction format literals) = spec.Instruction format (map read_literal_of literals.items)
task_of (task.Constants operands) = spec.Constants (map operand_of operands.items)
task_of task.ControlSection = spec.ControlSection
task_of task.DummySection = spec.DummySection
task_of (task.Equate said) = spec.Equate (equate_of said)
task_of (task.Org to) = spec.Org (option_map reading_of to)
task_of task.Pool = spec.Pool
task_of (task.Externals symbols) = spec.Externals (map symbol_reading_of symbols.items)
task_of (task.Entries symbols) = spec.Entries (map symbol_reading_of symbols.items)
task_of (task.End at) = spec.End (option_map reading_of at)
task_of (task.Bases reads_place) = spec.Bases reads_place
task_of task.Other = spec.Nothing

abbrev pub statement_of : LayoutStatement → spec.Statement
statement_of statement = record { op = statement.op; label = statement.label; task = task_of statement.task }
