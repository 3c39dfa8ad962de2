use Rattle.std.proofs.Common.{◌++◌}
use Rattle.constant_grammar.specs.Views.{constant_of}
use Rattle.ordinary_symbols.specs.Shown.{table_of}
use Rattle.ordinary_symbols.specs.Table.{known}
use Rattle.expression_notes.proofs.Turns.{in_turn, said_after}
use Rattle.constant_expressions.specs.Notes.{said_of_amount, said_of_nominal}
use Rattle.constant_expressions.proofs.notes.push_constant.Goals as goal

pub returns : goal.returns
returns c =
    let known_of = known (table_of c.args.symbols.now) in
    let one = constant_of c.args.constant.now in
    let before = c.args.rows.now.items in
    let of_factor = said_of_amount known_of c.args.here one.factor in
    let of_length = said_of_amount known_of c.args.here one.length in
    said_after c.push_nominal.result before c.push_amount-2.new.rows.items c.push_nominal.new.rows.items
    (of_factor ++ of_length) (said_of_nominal known_of c.args.here one.nominal)
    (in_turn before c.push_amount.new.rows.items c.push_amount-2.new.rows.items of_factor of_length
    c.in_ok-push_amount.ensures c.in_ok-push_amount-2.ensures)
    c.push_nominal.ensures
