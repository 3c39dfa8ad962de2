use Rattle.std.proofs.Common.{◌++◌, ◌∙◌, ap}
use Rattle.std.specs.Str.{chars}
use Rattle.statement_names.specs.Operands.{field_names}
use Rattle.statement_names.specs.Statements.{label_names, operation_names, names_in}
use Rattle.statement_names.proofs.ListLaws.{pushed-three}
use Rattle.statement_names.proofs.statement.names_in.Goals as goal

pub returns : goal.returns
unfolding names_in
returns c =
    let statement = c.args.statement.now in
    pushed-three c.new-found.result c.push_label.new.found c.push_operation.new.found c.push_field.new.found
    (label_names statement.label) (operation_names statement.op) (field_names c.args.used statement.operands)
    c.new-found.ensures
    (c.in_ok-push_label.ensures ∙ ap (λ l. c.new-found.result ++ label_names l) c.as_str.ensures.characters)
    (c.in_ok-push_operation.ensures ∙ ap (λ l. c.push_label.new.found ++ operation_names l) c.as_str-2.ensures.characters)
    (c.in_ok-push_field.ensures ∙ ap (λ l. c.push_operation.new.found ++ field_names c.args.used l) c.as_str-3.ensures.characters)
