use Rattle.std.proofs.Common.{◌∙◌, ap}
use Rattle.machine_check.specs.declared.bounds.Bounds.{Bounds}
use Rattle.operand_checks.specs.Addresses.{said_of_literal}
use Rattle.operand_checks.specs.Displacements.{displacements, said_of_place}
use Rattle.operand_checks.proofs.Judged.{said_row}
use Rattle.operand_checks.proofs.Rows.{place-stays}
use Rattle.operand_checks.proofs.addresses.push_literal.Goals as goal

pub returns : goal.returns
unfolding said_of_literal
returns c =
    let held = c.args.setting.now.ranges.now in
    let bounds = displacements c.args.kind in
    said_row c.push_row.result c.args.rows.now.items c.push_row.new.rows.items c.displacement_note.result
    (said_of_place held bounds c.args.is_based c.args.place)
    (c.displacement_note.ensures ∙ ap (λ (b : Bounds). said_of_place held b c.args.is_based c.args.place) c.displacements.ensures)
    (place-stays held bounds c.args.is_based c.args.place) c.push_row.ensures
