use Rattle.std.proofs.Common.{◌≡◌, drop}
use Rattle.program_occurrences.specs.Prototypes.{begins_operand}
use Rattle.program_occurrences.proofs.prototype.begins_operand.Given as goal

-- what is left of the operands tells the same
abbrev pub invariant-loop-operand : goal.invariant-loop-operand
invariant-loop-operand l = begins_operand l.place (drop l.operand-index l.operands) l.at ≡ begins_operand 0 l.operands l.at
