use Rattle.operand_checks.specs.Settings.{setting_of}
use Rattle.statement_checks.proofs.Turns.{constants_more}
use Rattle.statement_checks.proofs.statement.push_constants.Goals as goal

pub loop-operand-preserved : goal.loop-operand-preserved
loop-operand-preserved c =
    constants_more (setting_of c.args.setting.now) c.args.rows.now.items c.loop-operand.rows.items c.address_notes.new.rows.items
    c.args.operands.now c.loop-operand.operand-index c.operand-item.result
    c.loop-operand.invariant c.in_ok-address_notes.ensures c.loop-operand-test.true c.operand-item.is
