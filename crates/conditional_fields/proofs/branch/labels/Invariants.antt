use Rattle.std.proofs.Common.{◌≡◌, drop}
use Rattle.conditional_fields.specs.Answers.{each, behind_these}
use Rattle.conditional_fields.specs.Sequences.{sequence}
use Rattle.conditional_fields.proofs.branch.labels.Given as goal

-- the names so far, and then what is left
abbrev pub invariant-loop-operand : goal.invariant-loop-operand
invariant-loop-operand l = each sequence l.operands ≡ behind_these l.names.items (each sequence (drop l.operand-index l.operands))
