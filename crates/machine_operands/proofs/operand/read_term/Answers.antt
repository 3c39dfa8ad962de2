use Rattle.std.proofs.Common.{◌≡◌, true, false, rules}
use Rattle.std.specs.Str.{chars}
use Rattle.machine_operands.specs.Forms.{form_of}
use Rattle.machine_operands.specs.Operands.{may_be_alone, begins_literal}
use Rattle.machine_operands.proofs.Alone.{found_alone}
use Rattle.machine_operands.proofs.operand.read_term.Goals as goal

pub returns : goal.returns
returns c =
    let may : may_be_alone (form_of c.args.kind) ≡ true = search rules in
    let literal : begins_literal (chars c.args.text.now) ≡ false = search rules in
    found_alone c.args.kind (chars c.args.text.now) c.sole_term.result may literal c.sole_term.ensures
