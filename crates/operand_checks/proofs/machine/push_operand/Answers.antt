use Rattle.expression_notes.proofs.Turns.{said_after}
use Rattle.machine_operands.specs.Views.{machine_operand_of}
use Rattle.operand_checks.specs.Literals.{said_within}
use Rattle.operand_checks.specs.Machine.{said_of_written}
use Rattle.operand_checks.specs.Settings.{setting_of}
use Rattle.operand_checks.proofs.machine.push_operand.Goals as goal

pub returns : goal.returns
returns c =
    let setting = setting_of c.args.setting.now in
    let operand = machine_operand_of c.args.operand.now in
    said_after c.push_within.result c.args.rows.now.items c.push_written.new.rows.items c.push_within.new.rows.items
    (said_of_written setting c.args.kind c.args.place operand.written) (said_within setting c.args.place operand.literal)
    c.in_ok-push_written.ensures c.push_within.ensures
