use Rattle.std.proofs.Common.{◌≡◌, drop}
use Rattle.conditional_fields.specs.Answers.{each, behind_these}
use Rattle.conditional_fields.specs.Declarations.{declaration}
use Rattle.conditional_fields.proofs.declaration.each_declaration.Given as goal

-- what is declared so far, and then what is left
abbrev pub invariant-loop-operand : goal.invariant-loop-operand
invariant-loop-operand l =
    each (declaration l.kind l.global) l.operands ≡ behind_these l.list (each (declaration l.kind l.global) (drop l.operand-index l.operands))
