use Rattle.std.proofs.Common.{◌++◌, drop}
use Rattle.statement_names.specs.Operands.{each_operand}
use Rattle.statement_names.specs.Scans.{AreRead}
use Rattle.statement_names.proofs.operand.push_each.Given as goal

-- the names so far and those of the operands that are left are the names of the operands
abbrev pub invariant-loop-text : goal.invariant-loop-text
invariant-loop-text l = AreRead l.used l.at l.found (drop l.text-index l.texts) (l.initial.found ++ each_operand l.used 0 l.texts)
