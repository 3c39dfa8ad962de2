use Rattle.constant_grammar.specs.Views.{tree_in, tree_if}
use Rattle.expression_notes.proofs.Turns.{said_after}
use Rattle.instruction_table.specs.declared.encodings.Kind.TheVariants.{Register}
use Rattle.operand_checks.specs.Expressions.{said_of_part}
use Rattle.operand_checks.specs.Literals.{said_of_front}
use Rattle.operand_checks.specs.Settings.{setting_of}
use Rattle.operand_checks.proofs.literals.push_based.Goals as goal

pub returns : goal.returns
returns c =
    let setting = setting_of c.args.setting.now in
    let base = tree_if c.args.base.now in
    said_after c.push_part.result c.args.rows.now.items c.push_front.new.rows.items c.push_part.new.rows.items
    (said_of_front setting (tree_in c.args.displacement.now) base) (said_of_part setting Register base)
    c.in_ok-push_front.ensures c.push_part.ensures
