use Rattle.std.proofs.Common.{◌≡◌, ◌++◌, length}
use Rattle.label_attributes.specs.Meanings.{symbols_with}
use Rattle.label_attributes.proofs.symbols.add_operands.Given as goal

-- the operands so far, and then those that are left
abbrev pub invariant-loop-operands : goal.invariant-loop-operands
invariant-loop-operands l = l.found.items ++ symbols_with l.attr l.operands ≡ l.initial.found.items ++ symbols_with l.attr l.initial.operands

abbrev pub decreases-loop-operands : goal.decreases-loop-operands
decreases-loop-operands l = length l.operands
