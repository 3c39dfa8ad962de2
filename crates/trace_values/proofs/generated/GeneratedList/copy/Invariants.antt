use Rattle.std.proofs.Common.{◌≡◌, take}
use Rattle.trace_values.proofs.generated.GeneratedList.copy.Given as goal

-- the statements so far are copied
abbrev pub invariant-loop-statement : goal.invariant-loop-statement
invariant-loop-statement l = l.statements.items ≡ take l.statement-index l.statement-items
