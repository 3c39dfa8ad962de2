-- the values so far are those of the variables so far
use Rattle.std.proofs.Common.{◌≡◌, map, take}
use Rattle.serde_json.specs.View.{view}
use Rattle.dap_messages.specs.Written.{variable_value}
use Rattle.dap_messages.proofs.bodies.variables_json.Given as goal

abbrev pub invariant-loop-variable : goal.invariant-loop-variable
invariant-loop-variable l = map view l.values.items ≡ map variable_value (take l.variable-index l.variables)
