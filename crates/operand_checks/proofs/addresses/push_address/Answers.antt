use Rattle.std.proofs.Common.{◌++◌}
use Rattle.expression_notes.proofs.Turns.{in_turn, said_after}
use Rattle.instruction_table.specs.declared.encodings.Kind.TheVariants.{Register}
use Rattle.machine_operands.specs.Views.{address_of}
use Rattle.operand_checks.specs.Addresses.{said_of_address, said_of_first, said_of_front}
use Rattle.operand_checks.specs.Expressions.{said_of_part}
use Rattle.operand_checks.specs.Settings.{setting_of}
use Rattle.operand_checks.proofs.addresses.push_address.Goals as goal

pub returns : goal.returns
unfolding said_of_address
returns c =
    let setting = setting_of c.args.setting.now in
    let address = address_of c.args.address.now in
    let before = c.args.rows.now.items in
    let of_front = said_of_front setting c.args.kind c.args.place address in
    let of_first = said_of_first setting c.args.kind address.first in
    said_after c.push_part.result before c.push_first.new.rows.items c.push_part.new.rows.items
    (of_front ++ of_first) (said_of_part setting Register address.base)
    (in_turn before c.push_front.new.rows.items c.push_first.new.rows.items of_front of_first
    c.in_ok-push_front.ensures c.in_ok-push_first.ensures)
    c.push_part.ensures
