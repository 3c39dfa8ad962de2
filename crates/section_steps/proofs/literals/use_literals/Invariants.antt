use Rattle.std.proofs.Common.{◌≡◌, ◌++◌, length, map}
use Rattle.constant_operands.specs.Views.{operand_of}
use Rattle.layout_statements.specs.Views.{read_literal_of}
use Rattle.literal_places.specs.Shown.{literals_of}
use Rattle.ordinary_symbols.specs.Shown.{table_of}
use Rattle.ordinary_symbols.specs.Table.{known}
use Rattle.section_steps.specs.Instructions.{all_joined, all_used, said_of_all, all_legible}
use Rattle.section_steps.proofs.literals.use_literals.Given as goal

-- what there is so far, and then what there is of the literals that are left
abbrev pub invariant-loop-literal : goal.invariant-loop-literal
invariant-loop-literal l =
    let known = known (table_of l.symbols) in
    let read = map read_literal_of l.left.items in
    let read_first = map read_literal_of l.initial.left.items in
    record {
      joined : all_joined known l.here read (literals_of l.literals) ≡ all_joined known l.here read_first (literals_of l.initial.literals);
      used : l.gathered.uses.items ++ all_used known l.here read (literals_of l.literals)
          ≡ l.initial.gathered.uses.items ++ all_used known l.here read_first (literals_of l.initial.literals);
      said : l.gathered.said.items ++ said_of_all known l.here read ≡ l.initial.gathered.said.items ++ said_of_all known l.here read_first;
      operands : map operand_of l.gathered.operands.items ++ all_legible known l.here read
          ≡ map operand_of l.initial.gathered.operands.items ++ all_legible known l.here read_first;
    }

abbrev pub decreases-loop-literal : goal.decreases-loop-literal
decreases-loop-literal l = length l.left.items
