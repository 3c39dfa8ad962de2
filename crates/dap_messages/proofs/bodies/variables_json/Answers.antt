use Rattle.dap_messages.specs.Written.{variable_value}
use Rattle.dap_messages.proofs.ListLaws.{map-next}
use Rattle.dap_messages.proofs.bodies.variables_json.Goals as goal

pub loop-variable-preserved : goal.loop-variable-preserved
loop-variable-preserved c =
    map-next variable_value c.args.variables.now c.loop-variable.variable-index c.variable-item.result _ _ c.loop-variable-test.true c.variable-item.is
    c.loop-variable.invariant (c.in_ok-values-2.ensures _ c.variable_json.ensures)
