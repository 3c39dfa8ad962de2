use Rattle.operand_checks.specs.Settings.{setting_of}
use Rattle.operand_checks.proofs.Turns.{elements_more}
use Rattle.operand_checks.proofs.literals.push_elements.Goals as goal

pub loop-element-preserved : goal.loop-element-preserved
loop-element-preserved c =
    elements_more (setting_of c.args.setting.now) c.args.rows.now.items c.loop-element.rows.items c.push_element.new.rows.items
    c.args.elements.now c.loop-element.element-index c.element-item.result
    c.loop-element.invariant c.in_ok-push_element.ensures c.loop-element-test.true c.element-item.is
