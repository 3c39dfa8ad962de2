use Rattle.std.proofs.Common.{sym, ◌∙◌}
use Rattle.expression_grammar.specs.Views.{tree_of}
use Rattle.machine_operands.specs.declared.form.OperandForm.TheVariants as form
use Rattle.operand_checks.specs.Settings.{setting_of}
use Rattle.operand_checks.proofs.Alone.{said_alone}
use Rattle.operand_checks.proofs.machine.push_term.Goals as goal

pub returns-in-Value : goal.returns-in-Value
returns-in-Value c =
    said_alone c.push_alone.result c.args.rows.now.items c.push_alone.new.rows.items (setting_of c.args.setting.now) c.args.targets c.args.kind c.args.text.now
    (tree_of c.args.tree.now) form.Value c.requires (sym c.in-Value.is ∙ c.form_of.ensures) c.push_alone.ensures

pub returns-in-Target : goal.returns-in-Target
returns-in-Target c =
    said_alone c.push_alone-in-Target.result c.args.rows.now.items c.push_alone-in-Target.new.rows.items (setting_of c.args.setting.now) c.args.targets c.args.kind c.args.text.now
    (tree_of c.args.tree.now) form.Target c.requires (sym c.in-Target.is ∙ c.form_of.ensures) c.push_alone-in-Target.ensures

pub returns-in-Address : goal.returns-in-Address
returns-in-Address c =
    said_alone c.push_displacement.result c.args.rows.now.items c.push_displacement.new.rows.items (setting_of c.args.setting.now) c.args.targets c.args.kind c.args.text.now
    (tree_of c.args.tree.now) (form.Address c.in-Address.field-0) c.requires (sym c.in-Address.is ∙ c.form_of.ensures) c.push_displacement.ensures
