-- What the program's values are (this project).
use Rattle.std.specs.Prelude.{List, Option, map, option_map}
use Rattle.constant_grammar.specs.declared.tree.Formula.{Formula}
use Rattle.constant_grammar.specs.Views.{tree_in}
use Rattle.expression_grammar.specs.Trees.{Tree}
use Rattle.using_statements.specs.declared.written.Bounds as bounds
use Rattle.using_statements.specs.declared.written.DropOperands as declared
use Rattle.using_statements.specs.declared.written.DropOperands.TheVariants as drop
use Rattle.using_statements.specs.declared.written.UsingOperands as using
use Rattle.using_statements.specs.Written as spec

abbrev pub trees_of : List Formula → List Tree
trees_of formulas = map tree_in formulas

abbrev pub bounds_of : bounds.Bounds → spec.Bounds
bounds_of found = record { start = tree_in found.start; end = option_map tree_in found.end }

abbrev pub using_operands_of : using.UsingOperands → spec.UsingOperands
using_operands_of found = record { bounds = bounds_of found.bounds; registers = trees_of found.registers.items }

abbrev pub drop_operands_of : declared.DropOperands → spec.DropOperands
drop_operands_of drop.Everything = spec.Everything
drop_operands_of (drop.Named registers) = spec.Named (trees_of registers.items)
