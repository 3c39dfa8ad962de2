use Rattle.expression_grammar.specs.Views.{tree_of}
use Rattle.operand_checks.specs.Expressions.{said_of_target, said_of_target_from}
use Rattle.operand_checks.specs.Settings.{setting_of}
use Rattle.operand_checks.proofs.Judged.{judged_ok, judged_err}
use Rattle.operand_checks.proofs.Rows.{target-stays}
use Rattle.operand_checks.proofs.expressions.push_target.Goals as goal

pub returns-in-Ok : goal.returns-in-Ok
unfolding said_of_target
returns-in-Ok c =
    judged_ok c.push_row.result c.args.rows.now.items c.push_row.new.rows.items (setting_of c.args.setting.now) (tree_of c.args.tree.now)
    (said_of_target_from c.args.setting.now.here) c.in-Ok.place c.target_note_from.result c.in-Ok.ensures c.target_note_from.ensures
    (target-stays c.args.setting.now.here c.in-Ok.place) c.push_row.ensures

pub returns-in-Err : goal.returns-in-Err
unfolding said_of_target
returns-in-Err c =
    judged_err c.push_fault.result c.args.rows.now.items c.push_fault.new.rows.items (setting_of c.args.setting.now) (tree_of c.args.tree.now)
    (said_of_target_from c.args.setting.now.here) c.in-Err.field-0 c.in-Err.ensures c.push_fault.ensures
