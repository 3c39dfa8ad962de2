use Rattle.std.proofs.Common.{◌≡◌, ◌∙◌, ◌++◌, ap}
use Rattle.expression_grammar.specs.Views.{tree_of}
use Rattle.ordinary_symbols.specs.Known.{names}
use Rattle.ordinary_symbols.specs.Shown.{table_of}
use Rattle.ordinary_symbols.specs.Table.{known}
use Rattle.ordinary_symbols.specs.Values.{value}
use Rattle.expression_notes.specs.Expressions.{listed, said_of_value, undefined}
use Rattle.expression_notes.proofs.ValueRows.{said_behind_value}
use Rattle.expression_notes.proofs.values.push_expression.Goals as goal

pub returns : goal.returns
returns c =
    let known_of = known (table_of c.args.symbols.now) in
    let tree = tree_of c.args.e.now in
    let before = c.args.rows.now.items in
    let middle = c.push_row.new.rows.items in
    let found = value known_of c.args.here tree in
    let first : middle ≡ before ++ listed (said_of_value c.args.wanted found) =
    c.in_ok-push_row.ensures ∙ ap (λ row. before ++ listed row) (c.value_row.ensures ∙ ap (said_of_value c.args.wanted) c.eval.ensures) in
    said_behind_value c.push_undefined.result before middle c.push_undefined.new.rows.items (undefined known_of (names tree))
    c.args.wanted found first c.push_undefined.ensures
