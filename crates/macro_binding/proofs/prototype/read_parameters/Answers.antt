use Rattle.macro_binding.proofs.PrototypeLaws.{refuses}
use Rattle.macro_binding.proofs.prototype.read_parameters.Goals as goal

pub returns-then-not-branch-2 : goal.returns-then-not-branch-2
returns-then-not-branch-2 c =
    refuses _ _ _ _ _ c.in_ok-admit_operand.field-0 _ c.loop-operand.invariant c.loop-operand-test.true c.operand-item.is
    c.in_ok-admit_operand.ensures c.if-not-branch-2.true
