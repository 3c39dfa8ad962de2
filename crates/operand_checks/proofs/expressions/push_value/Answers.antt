use Rattle.expression_grammar.specs.Views.{tree_of}
use Rattle.machine_check.specs.Values.{said_of_value as said_of}
use Rattle.std.specs.Prelude.{Ok}
use Rattle.operand_checks.specs.Expressions.{said_of_value}
use Rattle.operand_checks.specs.Settings.{setting_of}
use Rattle.operand_checks.proofs.Judged.{judged_ok, judged_err}
use Rattle.operand_checks.proofs.Rows.{value-stays}
use Rattle.operand_checks.proofs.expressions.push_value.Goals as goal

pub returns-in-Ok : goal.returns-in-Ok
unfolding said_of_value
returns-in-Ok c =
    judged_ok c.push_row.result c.args.rows.now.items c.push_row.new.rows.items (setting_of c.args.setting.now) (tree_of c.args.tree.now)
    (λ place. said_of c.args.kind (Ok place)) c.in-Ok.place c.value_note.result c.in-Ok.ensures c.value_note.ensures
    (value-stays c.args.kind c.in-Ok.place) c.push_row.ensures

pub returns-in-Err : goal.returns-in-Err
unfolding said_of_value
returns-in-Err c =
    judged_err c.push_fault.result c.args.rows.now.items c.push_fault.new.rows.items (setting_of c.args.setting.now) (tree_of c.args.tree.now)
    (λ place. said_of c.args.kind (Ok place)) c.in-Err.field-0 c.in-Err.ensures c.push_fault.ensures
