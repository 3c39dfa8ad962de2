use Rattle.std.proofs.Common.{◌≡◌, map, take}
use Rattle.layout_statements.specs.Lists.{literals}
use Rattle.layout_statements.specs.Views.{read_literal_of}
use Rattle.layout_statements.proofs.lists.read_literals.Given as goal

-- the literals of the operands so far
abbrev pub invariant-loop-operand : goal.invariant-loop-operand
invariant-loop-operand l = map read_literal_of l.literals.items ≡ literals (take l.operand-index l.operands)
