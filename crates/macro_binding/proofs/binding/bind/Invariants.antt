use Rattle.std.proofs.Common.{take}
use Rattle.macro_binding.specs.Bindings.{givens}
use Rattle.macro_binding.specs.Sorting.{Sorts}
use Rattle.macro_binding.proofs.binding.bind.Given as goal

-- the operands so far are sorted
abbrev pub invariant-loop-operand : goal.invariant-loop-operand
invariant-loop-operand l = Sorts l.sorting (givens l.parameters (take l.operand-index l.operand-items))
