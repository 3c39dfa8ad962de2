use Rattle.std.proofs.Common.{◌≡◌, map, take}
use Rattle.debug_sessions.specs.Shown.{shown_variable}
use Rattle.debug_sessions.proofs.shown.variables_told.Given as goal

-- the variables so far
abbrev pub invariant-loop-variable : goal.invariant-loop-variable
invariant-loop-variable l = l.shown.items ≡ map shown_variable (take l.variable-index l.variables)
