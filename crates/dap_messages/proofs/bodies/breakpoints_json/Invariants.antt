-- the values so far are those of the lines so far
use Rattle.std.proofs.Common.{◌≡◌, map, take}
use Rattle.serde_json.specs.View.{view}
use Rattle.dap_messages.specs.Written.{breakpoint_value}
use Rattle.dap_messages.proofs.bodies.breakpoints_json.Given as goal

abbrev pub invariant-loop-line : goal.invariant-loop-line
invariant-loop-line l = map view l.values.items ≡ map breakpoint_value (take l.line-index l.lines)
