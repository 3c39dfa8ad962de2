use Rattle.std.proofs.Common.{◌≡◌, drop}
use Rattle.std.specs.Prelude.{map}
use Rattle.conditional_fields.specs.Answers.{each, behind_these}
use Rattle.statement_reading.specs.Branches.{pair}
use Rattle.statement_reading.specs.Views.{choice_of}
use Rattle.statement_reading.proofs.condition.read_each.Given as goal

-- the pairs so far, and then what is left
abbrev pub invariant-loop-operand : goal.invariant-loop-operand
invariant-loop-operand l = each pair l.operands ≡ behind_these (map choice_of l.pairs.items) (each pair (drop l.operand-index l.operands))
