use Rattle.std.proofs.Common.{◌≡◌, drop}
use Rattle.std.specs.Str.{chars}
use Rattle.macro_binding.specs.Prototypes.{admitted_operands, parameters}
use Rattle.macro_binding.proofs.prototype.read_parameters.Given as goal

-- what the rest of the operands adds to the parameters so far is what all add to none
abbrev pub invariant-loop-operand : goal.invariant-loop-operand
invariant-loop-operand l = admitted_operands l.parameters (drop l.operand-index l.operand-items) ≡ parameters (chars l.label) (chars l.operands)
