use Rattle.std.proofs.Common.{◌∙◌, sym, subst}
use Rattle.std.specs.Str.{chars}
use Rattle.expression_grammar.specs.declared.fault.SyntaxFault.{SyntaxFault}
use Rattle.expression_grammar.specs.Answers.{IsFault}
use Rattle.expression_grammar.specs.Views.{tree_of}
use Rattle.conditional_fields.specs.Fronts.{Written}
use Rattle.conditional_fields.proofs.FrontLaws.{faulty_text, other_tree}
use Rattle.conditional_fields.proofs.front.attempt.Goals as goal

pub returns-in-Err-At : goal.returns-in-Err-At
returns-in-Err-At c =
    faulty_text c.args.sought (chars c.args.text.now) c.in-Err-At._count
    (subst (λ (f : SyntaxFault). IsFault (Written c.args.sought) (chars c.args.text.now) f) c.in-Err-At.field-0-is c.in-Err-At.ensures)

pub returns-else-accepts : goal.returns-else-accepts
returns-else-accepts c =
    other_tree c.args.sought (chars c.args.text.now) (tree_of c.in-Ok.tree) c.in-Ok.ensures (sym c.accepts.ensures ∙ c.if-accepts.false) c.one_tree.ensures
