use Rattle.std.proofs.Common.{◌≡◌, map, take}
use Rattle.constant_operands.specs.Operands.{operand}
use Rattle.constant_operands.specs.Views.{operand_of}
use Rattle.layout_statements.proofs.lists.read_each.Given as goal

-- the operands so far
abbrev pub invariant-loop-text : goal.invariant-loop-text
invariant-loop-text l = map operand_of l.constants.items ≡ map (operand l.used) (take l.text-index l.operands)
