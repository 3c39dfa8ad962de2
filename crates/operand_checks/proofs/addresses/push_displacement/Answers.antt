use Rattle.std.proofs.Common.{◌∙◌, ap}
use Rattle.machine_check.specs.declared.bounds.Bounds.{Bounds}
use Rattle.expression_grammar.specs.Views.{tree_of}
use Rattle.operand_checks.specs.Addresses.{said_of_displacement}
use Rattle.operand_checks.specs.Displacements.{displacements, said_of_place}
use Rattle.operand_checks.specs.Settings.{setting_of}
use Rattle.operand_checks.proofs.Judged.{judged_ok, judged_err}
use Rattle.operand_checks.proofs.Rows.{place-stays}
use Rattle.operand_checks.proofs.addresses.push_displacement.Goals as goal

pub returns-in-Ok : goal.returns-in-Ok
unfolding said_of_displacement
returns-in-Ok c =
    let held = c.args.setting.now.ranges.now in
    let bounds = displacements c.args.kind in
    judged_ok c.push_row.result c.args.rows.now.items c.push_row.new.rows.items (setting_of c.args.setting.now) (tree_of c.args.tree.now)
    (said_of_place held bounds c.args.is_based) c.in-Ok.place c.displacement_note.result c.in-Ok.ensures
    (c.displacement_note.ensures ∙ ap (λ (b : Bounds). said_of_place held b c.args.is_based c.in-Ok.place) c.displacements.ensures)
    (place-stays held bounds c.args.is_based c.in-Ok.place) c.push_row.ensures

pub returns-in-Err : goal.returns-in-Err
unfolding said_of_displacement
returns-in-Err c =
    judged_err c.push_fault.result c.args.rows.now.items c.push_fault.new.rows.items (setting_of c.args.setting.now) (tree_of c.args.tree.now)
    (said_of_place c.args.setting.now.ranges.now (displacements c.args.kind) c.args.is_based) c.in-Err.field-0 c.in-Err.ensures c.push_fault.ensures
