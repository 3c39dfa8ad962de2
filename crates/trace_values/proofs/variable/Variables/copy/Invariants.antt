use Rattle.std.proofs.Common.{◌≡◌, take}
use Rattle.trace_values.proofs.variable.Variables.copy.Given as goal

-- the variables so far are copied
abbrev pub invariant-loop-variable : goal.invariant-loop-variable
invariant-loop-variable l = l.variables.items ≡ take l.variable-index l.variable-items
